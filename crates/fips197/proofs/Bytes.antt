-- Bytes as elements of GF(2^8), and lists made by a rule. Assumes nothing.
use mathlib.Core.Path.{◌≡◌, refl, sym, ap, subst}
use Prim.Native.Nat.{ℕ, zero, suc, ◌+◌, ◌*◌, ◌/◌, ◌%◌, ◌^◌, ◌<◌}
use native.Mathlib.Nat.{mod-lt, not-suc-le-zero, le_of_suc-le-suc}
use native.Mathlib.Omega.{arith}
use lib.Dec.{lit<}
use lib.Bits.{bit_xor, xor_lt, xor_zero_r}
use lib.ListN.{length, get_or}
use Rattle.block.specs.Field.{times}
use Rattle.fips197.specs.Aes.{◌⊕◌, ◌•◌, tabulate, xtime, mul_bits, squares, inverse, rotate_left, affine, s_box}

-- ---- a list made by a rule

pub length-tabulate : (n : ℕ) (f : ℕ → ℕ) → length (tabulate n f) ≡ n
unfolding tabulate
length-tabulate zero f = refl
length-tabulate (suc n) f = ap suc (length-tabulate n (λ i. f (suc i)))

pub tabulate_at : (n : ℕ) (f : ℕ → ℕ) (k : ℕ) → k < n → get_or (tabulate n f) k 0 ≡ f k
unfolding tabulate
tabulate_at zero f k h = absurd (not-suc-le-zero h)
tabulate_at (suc n) f zero h = refl
tabulate_at (suc n) f (suc k) h = tabulate_at n (λ i. f (suc i)) k (le_of_suc-le-suc h)

-- ---- the small products

pub double_is : (b : ℕ) → 2 • b ≡ xtime b
unfolding times mul_bits ◌•◌
double_is b = xor_zero_r (xtime b)

pub triple_is : (b : ℕ) → 3 • b ≡ b ⊕ xtime b
unfolding times mul_bits ◌•◌
triple_is b = ap (bit_xor b) (xor_zero_r (xtime b))

-- ---- every result is a byte

xtime_lt : {b : ℕ} → b < 256 → xtime b < 256
unfolding xtime
xtime_lt {b} h = xor_lt 8 (b * 2 % 256) (b / 128 * 0x1b) (mod-lt (b * 2) (lit< tt)) (omega arith)

pub double_lt : {b : ℕ} → b < 256 → 2 • b < 256
double_lt {b} h = subst (λ (x : ℕ). x < 256) (sym (double_is b)) (xtime_lt h)

pub triple_lt : {b : ℕ} → b < 256 → 3 • b < 256
triple_lt {b} h = subst (λ (x : ℕ). x < 256) (sym (triple_is b)) (xor_lt 8 b (xtime b) h (xtime_lt h))

times_lt : (a : ℕ) {b : ℕ} → b < 256 → times a b < 256
unfolding times
times_lt zero h = lit< tt
times_lt (suc a) h = h

product_lt : (n a : ℕ) {b : ℕ} → b < 256 → mul_bits n a b < 256
unfolding mul_bits
product_lt zero a h = lit< tt
product_lt (suc n) a {b} h = xor_lt 8 (times (a % 2) b) (mul_bits n (a / 2) (xtime b)) (times_lt (a % 2) h) (product_lt n (a / 2) (xtime_lt h))

squares_lt : (n b : ℕ) → squares n b < 256
unfolding squares ◌•◌
squares_lt zero b = lit< tt
squares_lt (suc n) b = product_lt 8 (b • b) (squares_lt n (b • b))

rotate_lt : (k b : ℕ) → rotate_left k b < 256
unfolding rotate_left
rotate_lt k b = mod-lt (b * 2 ^ k + b * 2 ^ k / 256) (lit< tt)

pub s_box_lt : (b : ℕ) → s_box b < 256
unfolding s_box affine inverse
s_box_lt b = add (add (add (add (add (squares_lt 7 b) (rotate_lt 1 i)) (rotate_lt 2 i)) (rotate_lt 3 i)) (rotate_lt 4 i)) (lit< tt)
  where
    i : ℕ
    i = inverse b

    add : {x y : ℕ} → x < 256 → y < 256 → x ⊕ y < 256
    add {x} {y} hx hy = xor_lt 8 x y hx hy
