-- A word's digits, and the masks that read and change one. Assumes nothing.
use mathlib.Core.Path.{◌≡◌, refl, sym, ◌∙◌, ap, ap₂}
use Prim.Native.Nat.{ℕ, zero, suc, ◌+◌, ◌-◌, ◌*◌, ◌/◌, ◌%◌, ◌^◌, ◌<◌, min, max}
use native.Mathlib.Nat.{pow-suc, max-zero, min-zero, mod-eq_of_lt, div-one}
use native.Mathlib.Omega.{arith}
use lib.Dec.{lit<}
use lib.Arith.{lt-one}
use lib.Pow.{shl_exact, pow_pos, pow-lt, shr-shr}
use lib.Bits.{bit_or, bit_and, or_step, and_step, or_zero_r, and_mask}
use Rattle.bits.specs.Bits.{digit, put_digit}

-- ---- a word's digits

pub digit_lt : (k w : ℕ) → digit k w < 2
unfolding digit
digit_lt zero w = omega arith
digit_lt (suc k) w = digit_lt k (w / 2)

pub digit-put_same : (k b w : ℕ) → b < 2 → digit k (put_digit k b w) ≡ b
unfolding digit put_digit
digit-put_same zero b w h = omega arith
digit-put_same (suc k) b w h =
    let e : (put_digit k b (w / 2) * 2 + w % 2) / 2 ≡ put_digit k b (w / 2) = omega arith in
    ap (digit k) e ∙ digit-put_same k b (w / 2) h

pub digit-put_other : (j k b w : ℕ) → b < 2 → (j ≡ k → ⊥) → digit j (put_digit k b w) ≡ digit j w
unfolding digit put_digit
digit-put_other zero zero b w h n = absurd (n refl)
digit-put_other zero (suc k) b w h n = omega arith
digit-put_other (suc j) zero b w h n =
    let e : (w / 2 * 2 + b) / 2 ≡ w / 2 = omega arith in
    ap (digit j) e
digit-put_other (suc j) (suc k) b w h n =
    let e : (put_digit k b (w / 2) * 2 + w % 2) / 2 ≡ put_digit k b (w / 2) = omega arith in
    ap (digit j) e ∙ digit-put_other j k b (w / 2) h (λ z. n (ap suc z))

pub put_lt : (n k b w : ℕ) → b < 2 → k < n → w < 2 ^ n → put_digit k b w < 2 ^ n
unfolding put_digit
put_lt zero k b w h l g = absurd (omega arith)
put_lt (suc n) zero b w h l g =
    let e : 2 ^ suc n ≡ 2 ^ n * 2 = pow-suc 2 n in
    omega arith
put_lt (suc n) (suc k) b w h l g =
    let e : 2 ^ suc n ≡ 2 ^ n * 2 = pow-suc 2 n in
    let r : put_digit k b (w / 2) < 2 ^ n = put_lt n k b (w / 2) h (omega arith) (omega arith) in
    omega arith

-- a word is its digits
pub digits_only : (n a b : ℕ) → a < 2 ^ n → b < 2 ^ n → ((k : ℕ) → k < n → digit k a ≡ digit k b) → a ≡ b
unfolding digit
digits_only zero a b h g e = lt-one h ∙ sym (lt-one g)
digits_only (suc n) a b h g e =
    let p : 2 ^ suc n ≡ 2 ^ n * 2 = pow-suc 2 n in
    let r : a / 2 ≡ b / 2 = digits_only n (a / 2) (b / 2) (omega arith) (omega arith) (λ k l. e (suc k) (omega arith)) in
    let z : a % 2 ≡ b % 2 = e zero (omega arith) in
    omega arith

pub digit-zero : (j : ℕ) → digit j 0 ≡ 0
unfolding digit
digit-zero zero = refl
digit-zero (suc j) = digit-zero j

-- ---- `w | 1 << k`, `w & !(1 << k)`, `(w >> k) % 2`

set_mask : (k w : ℕ) → bit_or w (2 ^ k) ≡ put_digit k 1 w
unfolding put_digit
set_mask zero w =
    let e : bit_or (w / 2) 0 ≡ w / 2 = or_zero_r (w / 2) in
    or_step w 1 ∙ ap (λ (x : ℕ). x * 2 + max (w % 2) 1) e ∙ omega arith
set_mask (suc k) w =
    let p : 2 ^ suc k ≡ 2 ^ k * 2 = pow-suc 2 k in
    let h : 2 ^ suc k / 2 ≡ 2 ^ k = omega arith in
    let z : 2 ^ suc k % 2 ≡ 0 = omega arith in
    or_step w (2 ^ suc k) ∙ ap₂ (λ (x y : ℕ). bit_or (w / 2) x * 2 + max (w % 2) y) h z
    ∙ ap₂ (λ (x y : ℕ). x * 2 + y) (set_mask k (w / 2)) (max-zero (w % 2))

clear_mask : (n k w : ℕ) → k < n → w < 2 ^ n → bit_and w (2 ^ n - 1 - 2 ^ k) ≡ put_digit k 0 w
unfolding put_digit
clear_mask zero k w l h = absurd (omega arith)
clear_mask (suc n) zero w l h =
    let p : 2 ^ suc n ≡ 2 ^ n * 2 = pow-suc 2 n in
    let o : 0 < 2 ^ n = pow_pos n in
    let e : (2 ^ suc n - 1 - 1) / 2 ≡ 2 ^ n - 1 = omega arith in
    let z : (2 ^ suc n - 1 - 1) % 2 ≡ 0 = omega arith in
    let q : w / 2 < 2 ^ n = omega arith in
    and_step w (2 ^ suc n - 1 - 1) ∙ ap₂ (λ (x y : ℕ). bit_and (w / 2) x * 2 + min (w % 2) y) e z
    ∙ ap₂ (λ (x y : ℕ). x * 2 + y) (and_mask (w / 2) n ∙ mod-eq_of_lt q) (min-zero (w % 2))
clear_mask (suc n) (suc k) w l h =
    let p : 2 ^ suc n ≡ 2 ^ n * 2 = pow-suc 2 n in
    let r : 2 ^ suc k ≡ 2 ^ k * 2 = pow-suc 2 k in
    let o : 2 ^ k < 2 ^ n = pow-lt (omega arith) in
    let e : (2 ^ suc n - 1 - 2 ^ suc k) / 2 ≡ 2 ^ n - 1 - 2 ^ k = omega arith in
    let z : (2 ^ suc n - 1 - 2 ^ suc k) % 2 ≡ 1 = omega arith in
    let q : w / 2 < 2 ^ n = omega arith in
    let m : min (w % 2) 1 ≡ w % 2 = omega arith in
    and_step w (2 ^ suc n - 1 - 2 ^ suc k) ∙ ap₂ (λ (x y : ℕ). bit_and (w / 2) x * 2 + min (w % 2) y) e z
    ∙ ap₂ (λ (x y : ℕ). x * 2 + y) (clear_mask n k (w / 2) (omega arith) q) m

pub digit_shift : (k w : ℕ) → digit k w ≡ w / 2 ^ k % 2
unfolding digit
digit_shift zero w = ap (λ (x : ℕ). x % 2) (sym (div-one w))
digit_shift (suc k) w =
    digit_shift k (w / 2)
    ∙ ap (λ (x : ℕ). x % 2) (shr-shr w 1 k ∙ ap (λ (j : ℕ). w / 2 ^ j) (omega arith))

-- `1 << k`
pub one_shl : (k : ℕ) → k < 64 → (1 * 2 ^ k) % 2 ^ 64 ≡ 2 ^ k
one_shl k h = shl_exact {a = 1} 1 k 64 (lit< tt) (omega arith) ∙ omega arith

-- `w | 1 << k`
pub code_set : (k w : ℕ) → k < 64 → bit_or w ((1 * 2 ^ k) % 2 ^ 64) ≡ put_digit k 1 w
code_set k w h = ap (bit_or w) (one_shl k h) ∙ set_mask k w

-- `w & !(1 << k)`
pub code_clear : (k w : ℕ) → k < 64 → w < 2 ^ 64 → bit_and w (2 ^ 64 - 1 - (1 * 2 ^ k) % 2 ^ 64) ≡ put_digit k 0 w
code_clear k w h l = ap (λ (x : ℕ). bit_and w (2 ^ 64 - 1 - x)) (one_shl k h) ∙ clear_mask 64 k w h l
