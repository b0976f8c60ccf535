-- A word with its lowest bits set, the ones of a word, and words with one more in front. Assumes nothing.
use mathlib.Core.Path.{◌≡◌, refl, sym, ◌∙◌, ap, ap₂, subst}
use mathlib.Core.List.{List, ◌∷◌}
use Prim.Native.Nat.{ℕ, zero, suc, ◌+◌, ◌-◌, ◌*◌, ◌/◌, ◌%◌, ◌^◌, ◌≤◌, ◌<◌}
use native.Mathlib.Nat.{pow-suc, mod-lt, lt_of_le_of_lt}
use native.Mathlib.Omega.{arith}
use lib.Dec.{eqb, ltb, leb-suc-zero, leb-suc-suc}
use lib.Pow.{pow_pos, mod-pow-add}
use lib.Bits.{bit_and, and_mask, and_le_l}
use lib.Count.{ones, ones_in, ones_cat, ones-le}
use lib.ListN.{get_or}
use borrow.Author.Tests.{eq-eqb, lt-ltb}
use Rattle.bits.specs.Bits.{digit, bit}
use Rattle.bits.proofs.Digits.{digit_lt, digit-zero, digit_shift, one_shl}

-- ---- the k lowest bits set

pub digit_low : (k j : ℕ) → eqb (digit j (2 ^ k - 1)) 1 ≡ ltb j k
unfolding digit
digit_low zero j = ap (λ (d : ℕ). eqb d 1) (digit-zero j) ∙ sym (leb-suc-zero j)
digit_low (suc k) zero =
    let p : 2 ^ suc k ≡ 2 ^ k * 2 = pow-suc 2 k in
    let o : 0 < 2 ^ k = pow_pos k in
    eq-eqb ((2 ^ suc k - 1) % 2) 1 (omega arith) ∙ sym (lt-ltb 0 (suc k) (omega arith))
digit_low (suc k) (suc j) =
    let p : 2 ^ suc k ≡ 2 ^ k * 2 = pow-suc 2 k in
    let o : 0 < 2 ^ k = pow_pos k in
    let e : (2 ^ suc k - 1) / 2 ≡ 2 ^ k - 1 = omega arith in
    ap (λ (x : ℕ). eqb (digit j x) 1) e ∙ digit_low k j ∙ sym (leb-suc-suc (suc j) k)

-- `1 << k`
pub one_shl_pos : (k : ℕ) → k < 64 → 1 ≤ (1 * 2 ^ k) % 2 ^ 64
one_shl_pos k h = subst (λ (x : ℕ). 1 ≤ x) (sym (one_shl k h)) (pow_pos k)

-- `(1 << k) - 1`
pub code_low : (k : ℕ) → k < 64 → (1 * 2 ^ k) % 2 ^ 64 - 1 ≡ 2 ^ k - 1
code_low k h = ap (λ (x : ℕ). x - 1) (one_shl k h)

-- ---- ones

-- one bit more
ones_digit : (d : ℕ) → d < 2 → ones d ≡ d
unfolding ones ones_in
ones_digit zero h = refl
ones_digit (suc zero) h = refl
ones_digit (suc (suc d)) h = absurd (omega arith)

pub ones_next : (k w : ℕ) → ones (w % 2 ^ suc k) ≡ ones (w % 2 ^ k) + digit k w
ones_next k w =
    let n : 1 + k ≡ suc k = omega arith in
    let low : w % 2 ^ k < 2 ^ k = mod-lt w (pow_pos k) in
    let top : ones (w / 2 ^ k % 2) ≡ digit k w = ap ones (sym (digit_shift k w)) ∙ ones_digit (digit k w) (digit_lt k w) in
    let whole : ones (w % 2 ^ (1 + k)) ≡ ones (w / 2 ^ k % 2) + ones (w % 2 ^ k) = ap ones (mod-pow-add w 1 k) ∙ ones_cat k (w / 2 ^ k % 2) (w % 2 ^ k) low in
    let same : ones (w % 2 ^ (1 + k)) ≡ ones (w % 2 ^ suc k) = ap (λ (j : ℕ). ones (w % 2 ^ j)) n in
    omega arith

-- those that a mask leaves
pub ones_masked : (w k : ℕ) {x : ℕ} → x ≡ 2 ^ k - 1 → ones (bit_and w x) ≡ ones (w % 2 ^ k)
ones_masked w k e = ap (λ (x : ℕ). ones (bit_and w x)) e ∙ ap ones (and_mask w k)

pub ones_most : (w x : ℕ) → w < 2 ^ 64 → ones (bit_and w x) ≤ 64
ones_most w x h = ones-le 64 (bit_and w x) (lt_of_le_of_lt (and_le_l w x) h)

-- ---- a word in front

pub bit_front : (i w : ℕ) (m : List ℕ) → i < 64 → bit i (w ∷ m) ≡ eqb (digit i w) 1
unfolding bit
bit_front i w m h =
    let d : i / 64 ≡ 0 = omega arith in
    let r : i % 64 ≡ i = omega arith in
    ap₂ (λ (a b : ℕ). eqb (digit a (get_or (w ∷ m) b 0)) 1) r d

pub bit_behind : (i w : ℕ) (m : List ℕ) → 64 ≤ i → bit i (w ∷ m) ≡ bit (i - 64) m
unfolding bit
bit_behind i w m h =
    let d : i / 64 ≡ suc ((i - 64) / 64) = omega arith in
    let r : i % 64 ≡ (i - 64) % 64 = omega arith in
    ap₂ (λ (a b : ℕ). eqb (digit a (get_or (w ∷ m) b 0)) 1) r d
