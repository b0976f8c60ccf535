-- Laws of a sector written block by block. Assumes nothing.
use mathlib.Core.Path.{◌≡◌, refl, sym, ap, ap₂, ◌∙◌}
use mathlib.Core.List.{List, [], ◌∷◌, ◌++◌, append_assoc, append-nil}
use Prim.Native.Nat.{ℕ, zero, suc, ◌+◌, ◌*◌, ◌/◌, ◌%◌, ◌^◌, ◌≤◌, ◌<◌}
use native.Mathlib.Nat.{min-le_left, add-zero, add_comm}
use native.Mathlib.Omega.{arith}
use lib.ListN.{length, take, drop, length-append, length-take, length-drop, take-append-drop, drop_of_length-le}
use lib.Seq.{take_at, drop-drop, drop-append-add, length-take-le}
use lib.Bits.{bit_xor}
use Rattle.block.specs.Bytes.{Bytes, Plain, from_bytes, to_bytes, blocks, blocks_of, xor_bytes}
use Rattle.block.proofs.Blocks.{length-blocks, blocks_of-cons}
use Rattle.block.proofs.Numbers.{length-to_bytes, to_from, block_lt, bytes_to_bytes, to_bytes_xor}
use Rattle.block.proofs.Lists.{bytes_take, bytes_drop, bytes_append, xor_append}
use Rattle.mode.specs.Sealing.{blockwise}

-- every element is a block
abbrev pub Below : List ℕ → Type 0
Below [] = Unit {0}
Below (v ∷ vs) = (v < 2 ^ 128) × Below vs

blocks_below : (n : ℕ) (l : List ℕ) → Bytes l → Below (blocks n l)
unfolding blocks
blocks_below zero l h = tt
blocks_below (suc n) l h =
    (block_lt (take 16 l) (bytes_take 16 l h) (simp length-take (min-le_left 16 (length l))), blocks_below n (drop 16 l) (bytes_drop 16 l h))

pub blocks_of_below : (l : List ℕ) → Bytes l → Below (blocks_of l)
unfolding blocks_of
blocks_of_below l h = blocks_below (length l / 16) l h

-- the blocks themselves, as bytes
abbrev pub itself : ℕ → ℕ → ℕ
itself j v = v

length-blockwise : (f : ℕ → ℕ → ℕ) (j : ℕ) (vs : List ℕ) → length (blockwise f j vs) ≡ 16 * length vs
unfolding blockwise
length-blockwise f j [] = omega arith
length-blockwise f j (v ∷ vs) =
    length-append (to_bytes 16 (f j v)) (blockwise f (j + 1) vs) ∙ ap₂ ◌+◌ (length-to_bytes 16 (f j v)) (length-blockwise f (j + 1) vs) ∙ omega arith

bytes_blockwise : (f : ℕ → ℕ → ℕ) (j : ℕ) (vs : List ℕ) → Bytes (blockwise f j vs)
unfolding blockwise
bytes_blockwise f j [] = tt
bytes_blockwise f j (v ∷ vs) = bytes_append (to_bytes 16 (f j v)) (blockwise f (j + 1) vs) (bytes_to_bytes 16 (f j v)) (bytes_blockwise f (j + 1) vs)

bytes_back : (n j : ℕ) (P : List ℕ) → length P ≡ 16 * n → Bytes P → blockwise itself j (blocks n P) ≡ P
unfolding blockwise blocks
bytes_back zero j [] e h = refl
bytes_back zero j (x ∷ xs) e h = absurd (omega arith)
bytes_back (suc n) j P e h =
    let l : length (take 16 P) ≡ 16 = length-take-le 16 P (omega arith) in
    let d : length (drop 16 P) ≡ 16 * n = simp length-drop (omega arith) in
    ap₂ (λ (x r : List ℕ). x ++ r)
    (ap (λ (k : ℕ). to_bytes k (from_bytes (take 16 P))) (sym l) ∙ to_from (take 16 P) (bytes_take 16 P h))
    (bytes_back n (j + 1) (drop 16 P) d (bytes_drop 16 P h))
    ∙ take-append-drop 16 P

-- ---- a plaintext of s bytes

module _ (s : ℕ) (whole : s % 16 ≡ 0) where
  pub plain_blockwise : (f : ℕ → ℕ → ℕ) (P : List ℕ) → Plain s P → Plain s (blockwise f 1 (blocks_of P))
  unfolding blocks_of
  plain_blockwise f P h = record {
    long =
        let e : length P ≡ s = h.long in
        let d : 16 * (length P / 16) ≡ s = omega arith in
        length-blockwise f 1 (blocks_of P) ∙ ap (λ (n : ℕ). 16 * n) (length-blocks (length P / 16) P) ∙ d;
    bytes = bytes_blockwise f 1 (blocks_of P);
  }

  pub blocks_back : (P : List ℕ) → Plain s P → blockwise itself 1 (blocks_of P) ≡ P
  unfolding blocks_of
  blocks_back P h = let e : length P ≡ s = h.long in bytes_back (length P / 16) 1 P (omega arith) h.bytes

-- ---- two sides of the same blocks

module _ (f : ℕ → ℕ → ℕ) (f_lt : (j v : ℕ) → v < 2 ^ 128 → f j v < 2 ^ 128) (g : ℕ → ℕ → ℕ) where
  -- g undoes f
  pub undone : ((j v : ℕ) → v < 2 ^ 128 → g j (f j v) ≡ v) → (j : ℕ) (vs : List ℕ) → Below vs
      → blockwise g j (blocks_of (blockwise f j vs)) ≡ blockwise itself j vs
  unfolding blockwise blocks_of blocks
  undone e j [] h = refl
  undone e j (v ∷ vs) h =
      ap (blockwise g j) (blocks_of-cons (f j v) (blockwise f (j + 1) vs) (f_lt j v h.0))
      ∙ ap₂ (λ (x : ℕ) (l : List ℕ). to_bytes 16 x ++ l) (e j v h.0) (undone e (j + 1) vs h.1)

  -- f ⊕ g is the block
  pub summed : ((j v : ℕ) → v < 2 ^ 128 → bit_xor (f j v) (g j v) ≡ v) → (j : ℕ) (vs : List ℕ) → Below vs
      → xor_bytes (blockwise f j vs) (blockwise g j vs) ≡ blockwise itself j vs
  unfolding blockwise
  summed e j [] h = refl
  summed e j (v ∷ vs) h =
      xor_append (to_bytes 16 (f j v)) (blockwise f (j + 1) vs) (to_bytes 16 (g j v)) (blockwise g (j + 1) vs) (length-to_bytes 16 (f j v) ∙ sym (length-to_bytes 16 (g j v)))
      ∙ ap₂ (λ (x l : List ℕ). x ++ l) (sym (to_bytes_xor 16 (f j v) (g j v)) ∙ ap (to_bytes 16) (e j v h.0)) (summed e (j + 1) vs h.1)

-- ---- the loop that writes a sector block by block

blocks_snoc : (j : ℕ) (l : List ℕ) → blocks (j + 1) l ≡ blocks j l ++ (from_bytes (take 16 (drop (16 * j) l)) ∷ [])
unfolding blocks
blocks_snoc zero l = refl
blocks_snoc (suc j) l =
    let e : suc j + 1 ≡ suc (j + 1) = omega arith in
    let f : 16 + 16 * j ≡ 16 * suc j = omega arith in
    ap (λ (n : ℕ). blocks n l) e
    ∙ ap (λ (r : List ℕ). from_bytes (take 16 l) ∷ r)
    (blocks_snoc j (drop 16 l) ∙ ap (λ (r : List ℕ). blocks j (drop 16 l) ++ (from_bytes (take 16 r) ∷ [])) (drop-drop (16 * j) 16 l ∙ ap (λ (n : ℕ). drop n l) f))

module _ (f : ℕ → ℕ → ℕ) where
  blockwise-append : (j : ℕ) (xs ys : List ℕ) → blockwise f j (xs ++ ys) ≡ blockwise f j xs ++ blockwise f (j + length xs) ys
  unfolding blockwise
  blockwise-append j [] ys = ap (λ (n : ℕ). blockwise f n ys) (sym (add-zero j))
  blockwise-append j (x ∷ xs) ys =
      let e : j + 1 + length xs ≡ j + suc (length xs) = omega arith in
      ap (λ (r : List ℕ). to_bytes 16 (f j x) ++ r) (blockwise-append (j + 1) xs ys ∙ ap (λ (n : ℕ). blockwise f (j + 1) xs ++ blockwise f n ys) e)
      ∙ sym (append_assoc (to_bytes 16 (f j x)) (blockwise f (j + 1) xs) (blockwise f (j + suc (length xs)) ys))

  -- the blocks of x up to j are written to o, which held l
  pub record Written (x l : List ℕ) (j : ℕ) (o : List ℕ) : Type 0 where
    pub size : length o ≡ length l
    pub front : o ≡ blockwise f 1 (blocks j x) ++ drop (16 * j) l

  pub written_none : (x l : List ℕ) → Written x l 0 l
  unfolding blockwise blocks
  written_none x l = record { size = refl; front = refl }

  pub written_next : (x l : List ℕ) (j : ℕ) (o q : List ℕ) (v : ℕ) → Written x l j o → length q ≡ length o
      → q ≡ take (16 * j) o ++ to_bytes 16 v ++ drop (16 * j + 16) o → v ≡ f (j + 1) (from_bytes (take 16 (drop (16 * j) x)))
      → Written x l (j + 1) q
  unfolding blockwise
  written_next x l j o q v w len e ev = record {
    size = len ∙ w.size;
    front =
        e
        ∙ ap (λ (u : List ℕ). take (16 * j) u ++ to_bytes 16 v ++ drop (16 * j + 16) u) w.front
        ∙ ap₂ (λ (u r : List ℕ). u ++ to_bytes 16 v ++ r) (take_at a (drop (16 * j) l) (16 * j) la)
        (ap (λ (k : ℕ). drop (k + 16) (a ++ drop (16 * j) l)) (sym la) ∙ drop-append-add a (drop (16 * j) l) 16 ∙ drop-drop 16 (16 * j) l ∙ ap (λ (k : ℕ). drop k l) next)
        ∙ ap (λ (r : List ℕ). (a ++ r) ++ drop (16 * (j + 1)) l)
        (ap (to_bytes 16) (ev ∙ ap (λ (n : ℕ). f n (from_bytes (take 16 (drop (16 * j) x)))) (add_comm j 1 ∙ ap (λ (n : ℕ). 1 + n) (sym lb))) ∙ sym (append-nil _))
        ∙ ap (λ (r : List ℕ). r ++ drop (16 * (j + 1)) l)
        (sym (blockwise-append 1 (blocks j x) (from_bytes (take 16 (drop (16 * j) x)) ∷ [])) ∙ ap (blockwise f 1) (sym (blocks_snoc j x)));
  }
    where
      a : List ℕ
      a = blockwise f 1 (blocks j x)

      lb : length (blocks j x) ≡ j
      lb = length-blocks j x

      la : length a ≡ 16 * j
      la = length-blockwise f 1 (blocks j x) ∙ ap (λ (n : ℕ). 16 * n) lb

      next : 16 * j + 16 ≡ 16 * (j + 1)
      next = omega arith

  pub written_all : (x l : List ℕ) (j : ℕ) (o : List ℕ) → Written x l j o → j ≡ length x / 16 → length l ≤ 16 * j → o ≡ blockwise f 1 (blocks_of x)
  unfolding blocks_of
  written_all x l j o w e h =
      w.front ∙ ap₂ ◌++◌ (ap (λ (n : ℕ). blockwise f 1 (blocks n x)) e) (drop_of_length-le l h) ∙ append-nil (blockwise f 1 (blocks (length x / 16) x))
