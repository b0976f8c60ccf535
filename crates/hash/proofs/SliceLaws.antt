-- BRW of the blocks in a list of bytes and one block more, from the parts that code lends and loads. Assumes nothing.
use mathlib.Core.Path.{◌≡◌, sym, ap, ap₂, ◌∙◌}
use mathlib.Core.List.{List, [], ◌∷◌, ◌++◌}
use Prim.Native.Nat.{ℕ, suc, ◌+◌, ◌-◌, ◌*◌, ◌/◌, ◌^◌, ◌≤◌, ◌<◌}
use native.Mathlib.Nat.{pow-suc}
use native.Mathlib.Omega.{arith}
use lib.ListN.{length, take, drop, get_or, length-take, length-drop, length-append, drop_of_length-le, get_or-append}
use lib.Seq.{take-suc, take_all, take-append-le, drop-append-le, get_or_at}
use lib.Pow.{pow_pos}
use lib.Bits.{bit_xor, xor_zero_r}
use Rattle.block.specs.Bytes.{from_bytes, blocks, blocks_of}
use Rattle.block.specs.Field.{mul, power}
use Rattle.block.proofs.Blocks.{length-blocks, take-blocks, drop-blocks, get_or-blocks}
use Rattle.hash.specs.Brw.{log, cases, brw_in, brw}
use Rattle.hash.proofs.BrwLaws.{log_bounds, brw-cases, brw-rule}

-- the blocks of l and then z
abbrev with_last : List ℕ → ℕ → List ℕ
with_last l z = blocks_of l ++ (z ∷ [])

-- how many these are
abbrev count : List ℕ → ℕ
count l = length l / 16 + 1

-- block i of l
abbrev block_at : List ℕ → ℕ → ℕ
block_at l i = from_bytes (take 16 (drop (16 * i) l))

-- the first n blocks of l, the last of them apart
abbrev first_blocks : List ℕ → ℕ → List ℕ
first_blocks l n = with_last (take (16 * (n - 1)) l) (block_at l (n - 1))

-- what is left of l behind its first n blocks
abbrev rest : List ℕ → ℕ → List ℕ
rest l n = take (length l - 16 * n) (drop (16 * n) l)

-- ---- the blocks of a list of bytes

blocks_at : (n : ℕ) (l : List ℕ) → length l / 16 ≡ n → blocks_of l ≡ blocks n l
unfolding blocks_of
blocks_at n l e = ap (λ (m : ℕ). blocks m l) e

module _ (l : List ℕ) where
  length-blocks_of : length (blocks_of l) ≡ length l / 16
  unfolding blocks_of
  length-blocks_of = length-blocks (length l / 16) l

  get_or-blocks_of : (i : ℕ) → i < length l / 16 → get_or (blocks_of l) i 0 ≡ block_at l i
  unfolding blocks_of
  get_or-blocks_of i = get_or-blocks i (length l / 16) l

  take-blocks_of : (n : ℕ) → 0 < n → n ≤ length l / 16 → take n (blocks_of l) ≡ first_blocks l n
  unfolding blocks_of
  take-blocks_of n p q =
      let j : ℕ = n - 1 in
      let k : ℕ = length l / 16 in
      let e : n ≡ suc j = omega arith in
      let part : length (take (16 * j) l) / 16 ≡ j = simp length-take (omega arith) in
      ap (λ (m : ℕ). take m (blocks k l)) e
      ∙ take-suc (blocks k l) j 0 (omega (arith, length-blocks k l))
      ∙ ap₂ (λ (xs : List ℕ) (x : ℕ). xs ++ (x ∷ []))
      (take-blocks j k l (omega arith) ∙ sym (blocks_at j (take (16 * j) l) part)) (get_or-blocks_of j (omega arith))

  drop-blocks_of : (n : ℕ) → n ≤ length l / 16 → drop n (blocks_of l) ≡ blocks_of (rest l n)
  unfolding blocks_of
  drop-blocks_of n q =
      let behind : List ℕ = drop (16 * n) l in
      let part : length behind / 16 ≡ length l / 16 - n = simp length-drop (omega arith) in
      drop-blocks n (length l / 16) l q
      ∙ sym (blocks_at (length l / 16 - n) behind part)
      ∙ ap blocks_of (sym (take_all (length l - 16 * n) behind (simp length-drop (omega arith))))

-- ---- fewer than four blocks

module _ (h : ℕ) (l : List ℕ) (z : ℕ) where
  pub one_block : length l / 16 ≡ 0 → brw h (with_last l z) ≡ z
  unfolding brw brw_in cases blocks
  one_block e = rw (blocks_at 0 l e)

  pub two_blocks : length l / 16 ≡ 1 → brw h (with_last l z) ≡ bit_xor (mul (block_at l 0) (power h 0)) z
  unfolding brw brw_in cases blocks power
  two_blocks e = rw (blocks_at 1 l e)

  pub three_blocks : length l / 16 ≡ 2
      → brw h (with_last l z) ≡ bit_xor (mul (bit_xor (power h 0) (block_at l 0)) (bit_xor (power h 1) (block_at l 1))) z
  unfolding brw brw_in cases blocks power
  three_blocks e = rw (blocks_at 2 l e)

-- ---- four blocks or more, cut at Xt

-- BRW of the first n blocks, from the last of them
pub first_brw : (h : ℕ) (l : List ℕ) (n : ℕ) {v r : ℕ} → v ≡ block_at l (n - 1)
    → r ≡ brw h (with_last (take (16 * (n - 1)) l) v) → r ≡ brw h (first_blocks l n)
first_brw h l n ev er = er ∙ ap (λ (v : ℕ). brw h (with_last (take (16 * (n - 1)) l) v)) ev

module _ (h : ℕ) (l : List ℕ) (z t : ℕ) (many : 48 ≤ length l) (e : t ≡ 2 ^ log (count l)) where
  front : brw h (with_last l z) ≡ bit_xor
      (mul (brw h (first_blocks l (t - 1))) (bit_xor (power h (log (count l))) (get_or (with_last l z) (t - 1) 0)))
      (brw h (drop t (with_last l z)))
  front =
      let n = length-blocks_of l in
      let b = log_bounds (count l) (omega arith) in
      let s = pow-suc 2 (log (count l)) in
      let len : length (with_last l z) ≡ count l = simp length-append (omega arith) in
      let before : take (t - 1) (with_last l z) ≡ first_blocks l (t - 1) =
      take-append-le (t - 1) (blocks_of l) (z ∷ []) (omega arith) ∙ take-blocks_of l (t - 1) (omega arith) (omega arith) in
      rw before at (brw-rule h (with_last l z) (count l) t len (omega arith) e)

  -- Xt is z
  pub at_last : t ≡ count l → brw h (with_last l z) ≡ mul (brw h (first_blocks l (t - 1))) (bit_xor (power h (log (count l))) z)
  unfolding cases
  at_last end =
      let n = length-blocks_of l in
      let xt : get_or (with_last l z) (t - 1) 0 ≡ z = get_or_at (blocks_of l) z [] 0 (t - 1) (omega arith) in
      let after : drop t (with_last l z) ≡ [] = drop_of_length-le (with_last l z) {i = t} (simp length-append (omega arith)) in
      rw (xt, after, brw-cases h [], xor_zero_r) at front

  -- Xt is a block of l
  pub at_block : t ≤ length l / 16 → brw h (with_last l z) ≡ bit_xor
      (mul (brw h (first_blocks l (t - 1))) (bit_xor (power h (log (count l))) (block_at l (t - 1))))
      (brw h (with_last (rest l t) z))
  at_block inside =
      let n = length-blocks_of l in
      let p = pow_pos (log (count l)) in
      let xt : get_or (with_last l z) (t - 1) 0 ≡ block_at l (t - 1) =
      get_or-append (blocks_of l) (z ∷ []) 0 (t - 1) (omega arith) ∙ get_or-blocks_of l (t - 1) (omega arith) in
      let after : drop t (with_last l z) ≡ with_last (rest l t) z =
      drop-append-le t (blocks_of l) (z ∷ []) (omega arith) ∙ ap (λ (xs : List ℕ). xs ++ (z ∷ [])) (drop-blocks_of l t inside) in
      rw (xt, after) at front
