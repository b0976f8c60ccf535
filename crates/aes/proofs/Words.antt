-- Words as four bytes, and blocks as four words. Assumes nothing.
use mathlib.Core.Path.{◌≡◌, refl, sym, ap, ap₂, ◌∙◌, subst}
use mathlib.Core.List.{List, [], ◌∷◌, ◌++◌, append_assoc}
use Prim.Native.Nat.{ℕ, zero, suc, ◌+◌, ◌*◌, ◌/◌, ◌%◌, ◌^◌, ◌≤◌, ◌<◌}
use native.Mathlib.Nat.{div-add-mod', mul-mod_left, add-zero, pow-suc}
use native.Mathlib.Omega.{arith}
use lib.Arith.{digits_lt, digits_div}
use lib.Pow.{high, low, pow-add, shl-shr, shr_lt, mod-pow-add}
use lib.Bits.{bit_or, or_shifted, or_comm}
use mir.Syntax.{w32}
use lib.ListN.{length, get_or, take, drop, length-drop}
use lib.Seq.{get_or-drop, take_at, drop_at}
use Rattle.std.specs.Int.{from_be_bytes, to_be_bytes}
use Rattle.block.specs.Bytes.{number, from_bytes, to_bytes, part}
use Rattle.block.proofs.Numbers.{length-to_bytes, to_bytes-append, to_bytes_low, to_bytes_two, from_to}
use Rattle.fips197.specs.Aes.{rotate}
use Rattle.aes.specs.Columns.{state_of}

-- ---- a rotation

pow_bytes : (n : ℕ) → 2 ^ (8 * n) ≡ 256 ^ n
pow_bytes zero = refl
pow_bytes (suc n) =
    let e : 8 * suc n ≡ 8 * n + 8 = omega arith in
    ap (λ (m : ℕ). 2 ^ m) e ∙ pow-add 2 (8 * n) 8 ∙ ap (λ (p : ℕ). p * 256) (pow_bytes n) ∙ sym (pow-suc 256 n)

-- a word of k bytes and then j bytes, rotated right by j bytes
module _ (x j k : ℕ) (e : j + k ≡ 4) (h : x < 2 ^ 32) where
  top_lt : x / 2 ^ (8 * j) < 2 ^ (8 * k)
  top_lt = let n : 32 ≡ 8 * k + 8 * j = omega arith in shr_lt (8 * k) (8 * j) (subst (λ (m : ℕ). x < 2 ^ m) n h)

  rotated_number : bit_or (x * 2 ^ (8 * k) % 2 ^ 32) (x / 2 ^ (8 * j)) ≡ x % 256 ^ j * 256 ^ k + x / 256 ^ j
  rotated_number =
      let n : 32 ≡ 8 * j + 8 * k = omega arith in
      ap (λ (y : ℕ). bit_or y (x / 2 ^ (8 * j)))
      (ap (λ (m : ℕ). x * 2 ^ (8 * k) % 2 ^ m) n
      ∙ mod-pow-add (x * 2 ^ (8 * k)) (8 * j) (8 * k)
      ∙ ap₂ (λ (y z : ℕ). y % 2 ^ (8 * j) * 2 ^ (8 * k) + z) (shl-shr x (8 * k)) (mul-mod_left x (2 ^ (8 * k)))
      ∙ add-zero (x % 2 ^ (8 * j) * 2 ^ (8 * k)))
      ∙ or_shifted (x % 2 ^ (8 * j)) (8 * k) (x / 2 ^ (8 * j)) top_lt
      ∙ ap₂ (λ (p q : ℕ). x % p * q + x / p) (pow_bytes j) (pow_bytes k)

  pub rotated_bytes : to_bytes 4 (bit_or (x * 2 ^ (8 * k) % 2 ^ 32) (x / 2 ^ (8 * j))) ≡ rotate k (to_bytes 4 x)
  rotated_bytes =
      let top : ℕ = x / 256 ^ j in
      let rest : ℕ = x % 256 ^ j in
      let small : top < 256 ^ k = subst (λ (p : ℕ). top < p) (pow_bytes k) (subst (λ (p : ℕ). x / p < 2 ^ (8 * k)) (pow_bytes j) top_lt) in
      let long : length (to_bytes k top) ≡ k = length-to_bytes k top in
      let n : 4 ≡ k + j = omega arith in
      ap (to_bytes 4) rotated_number ∙ ap (λ (m : ℕ). to_bytes m (rest * 256 ^ k + top)) n ∙ to_bytes-append j k (rest * 256 ^ k + top)
      ∙ ap₂ ◌++◌
      (ap (to_bytes j) (digits_div rest small) ∙ sym (to_bytes_low top j rest) ∙ ap (to_bytes j) (div-add-mod' x (256 ^ j)))
      (to_bytes_low rest k top)
      ∙ sym
      (ap (rotate k) (ap (λ (m : ℕ). to_bytes m x) (sym e) ∙ to_bytes-append k j x)
      ∙ ap₂ ◌++◌ (drop_at (to_bytes k top) (to_bytes j x) k long) (take_at (to_bytes k top) (to_bytes j x) k long))

  pub rotated_right : to_bytes 4 (bit_or (x / 2 ^ (8 * j)) (x * 2 ^ (8 * k) % 2 ^ 32)) ≡ rotate k (to_bytes 4 x)
  rotated_right = ap (to_bytes 4) (or_comm (x / 2 ^ (8 * j)) (x * 2 ^ (8 * k) % 2 ^ 32)) ∙ rotated_bytes

-- ---- a word from its bytes

pub be_word : (a b c d : ℕ) → from_be_bytes w32 (a ∷ b ∷ c ∷ d ∷ []) ≡ from_bytes (a ∷ b ∷ c ∷ d ∷ [])
unfolding number from_bytes
be_word a b c d = omega arith

pub be_bytes : (x : ℕ) → to_be_bytes w32 x ≡ to_bytes 4 x
unfolding to_bytes
be_bytes x =
    let a : x / 0x100_0000 ≡ x / 256 / 256 / 256 = omega arith in
    let b : x / 0x1_0000 ≡ x / 256 / 256 = omega arith in
    λ i. a i % 256 ∷ b i % 256 ∷ x / 256 % 256 ∷ x % 256 ∷ []

pub from_four : (r : ℕ) {l : List ℕ} → r < 2 ^ 32 → to_bytes 4 r ≡ l → r ≡ from_bytes l
from_four r h e = sym (from_to 4 r h) ∙ ap from_bytes e

-- ---- four bytes of a list

four : (l : List ℕ) → 4 ≤ length l → take 4 l ≡ get_or l 0 0 ∷ get_or l 1 0 ∷ get_or l 2 0 ∷ get_or l 3 0 ∷ []
four [] h = absurd (omega arith)
four (a ∷ []) h = absurd (omega arith)
four (a ∷ b ∷ []) h = absurd (omega arith)
four (a ∷ b ∷ c ∷ []) h = absurd (omega arith)
four (a ∷ b ∷ c ∷ d ∷ l) h = refl

pub part_four : (l : List ℕ) (i : ℕ) → i * 4 + 4 ≤ length l
    → part 4 i l ≡ get_or l (i * 4 + 0) 0 ∷ get_or l (i * 4 + 1) 0 ∷ get_or l (i * 4 + 2) 0 ∷ get_or l (i * 4 + 3) 0 ∷ []
unfolding part
part_four l i h =
    let at = i * 4 in
    four (drop at l) (simp length-drop (omega arith))
    ∙ (λ k. get_or-drop at l 0 0 k ∷ get_or-drop at l 1 0 k ∷ get_or-drop at l 2 0 k ∷ get_or-drop at l 3 0 k ∷ [])

-- ---- a block as four words

halves : (x : ℕ) → to_bytes 4 (x / 2 ^ 32) ++ to_bytes 4 (x % 2 ^ 32) ≡ to_bytes 8 x
halves x =
    sym
    (to_bytes-append 4 4 x
    ∙ ap (λ (l : List ℕ). to_bytes 4 (x / 2 ^ 32) ++ l) (ap (to_bytes 4) (sym (div-add-mod' x (2 ^ 32))) ∙ to_bytes_low (x / 2 ^ 32) 4 (x % 2 ^ 32)))

pub to_columns : (h l : ℕ) → l < 2 ^ 64
    → state_of (record { c0 = h / 2 ^ 32; c1 = h % 2 ^ 32; c2 = l / 2 ^ 32; c3 = l % 2 ^ 32 }) ≡ to_bytes 16 (h * 2 ^ 64 + l)
unfolding state_of
to_columns h l b =
    append_assoc (to_bytes 4 (h / 2 ^ 32) ++ to_bytes 4 (h % 2 ^ 32)) (to_bytes 4 (l / 2 ^ 32)) (to_bytes 4 (l % 2 ^ 32))
    ∙ ap₂ ◌++◌ (halves h) (halves l) ∙ sym (to_bytes_two h l b)

pub from_columns : (a b c d : ℕ) → a < 2 ^ 32 → b < 2 ^ 32 → c < 2 ^ 32 → d < 2 ^ 32
    → (a * 2 ^ 32 + b) * 2 ^ 64 + (c * 2 ^ 32 + d) ≡ from_bytes (state_of (record { c0 = a; c1 = b; c2 = c; c3 = d }))
from_columns a b c d ha hb hc hd =
    let h = a * 2 ^ 32 + b in
    let l = c * 2 ^ 32 + d in
    let hl : l < 2 ^ 64 = digits_lt {m = 2 ^ 32} {c = 2 ^ 32} hc hd in
    sym (from_to 16 (h * 2 ^ 64 + l) (digits_lt {m = 2 ^ 64} {c = 2 ^ 64} (digits_lt {m = 2 ^ 32} {c = 2 ^ 32} ha hb) hl))
    ∙ ap from_bytes
    (sym (to_columns h l hl)
    ∙ (λ i. state_of (record { c0 = high a 32 hb i; c1 = low a 32 hb i; c2 = high c 32 hd i; c3 = low c 32 hd i })))
