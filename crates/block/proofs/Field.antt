-- Laws of the field. Assumes nothing.
use Rattle.std.proofs.Common.{◌≡◌, ℕ, zero, suc, ◌+◌, ◌-◌, ◌*◌, ◌/◌, ◌%◌, ◌^◌, ◌<◌, ◌≤◌, sym, refl, ap, ◌∙◌, ap₂, lt_of_lt_of_le, le_of_suc-le-suc, not-suc-le-zero, mod-lt, mod-eq_of_lt, pow-suc, mul-one, add-one, arith, lit<, lit≤, pow_pos, pow_mono, pow-add, shl_lt}
use native.Mathlib.Nat.{mod-one, div-eq_of_lt, le_of_suc-le, mul-mod_left}
use native.Mathlib.Nat as N
use lib.Pow.{pow-lt, shl-shr, mod-pow-add}
use lib.Bits.{bit_xor, xor_comm, xor_zero_r, xor_self, xor_lt, xor_shr, xor_mod, xor_shifted}
use Rattle.block.specs.FieldLaws.{FieldLaws}
use Rattle.block.proofs.Bits.{bit-cases, bit_lt, xor_half, xor_bit, xor_assoc, xor_cancel, xor_swap, xor_shl}
use Rattle.block.specs.Field.{times, double, horner, mul, x⁻¹, 1⊕x⁻¹}

-- ---- a bit times an element

pub times_lt : {b m : ℕ} (x : ℕ) → b < m → times x b < m
unfolding times
times_lt zero h = omega arith
times_lt (suc x) h = h

-- linear in the element, and in the bit
pub times_add : (x b c : ℕ) → times x (bit_xor b c) ≡ bit_xor (times x b) (times x c)
unfolding times
times_add zero b c = refl
times_add (suc x) b c = refl

pub bits_add : (x y b : ℕ) → x < 2 → y < 2 → times (bit_xor x y) b ≡ bit_xor (times x b) (times y b)
unfolding times
bits_add x y b hx hy =
    bit-cases (λ (x : ℕ). times (bit_xor x y) b ≡ bit_xor (times x b) (times y b)) refl
    (bit-cases (λ (y : ℕ). times (bit_xor 1 y) b ≡ bit_xor b (times y b)) (sym (xor_zero_r b)) (sym (xor_self b)) y hy) x hx

-- ---- doubling

pub double_lt : (a : ℕ) → double a < 2 ^ 128
unfolding double
double_lt a = xor_lt 128 (a * 2 % 2 ^ 128) (times (a / 2 ^ 127 % 2) 0x87) (mod-lt (a * 2) (lit< tt)) (times_lt (a / 2 ^ 127 % 2) (lit< tt))

pub double_add : (a b : ℕ) → double (bit_xor a b) ≡ bit_xor (double a) (double b)
unfolding double
double_add a b =
    ap₂ bit_xor
    (ap (λ (x : ℕ). x % 2 ^ 128) (xor_shl a b 1) ∙ xor_mod (a * 2) (b * 2) 128)
    (ap (λ (x : ℕ). times (x % 2) 0x87) (xor_shr a b 127)
    ∙ ap (λ (x : ℕ). times x 0x87) (xor_bit (a / 2 ^ 127) (b / 2 ^ 127))
    ∙ bits_add (a / 2 ^ 127 % 2) (b / 2 ^ 127 % 2) 0x87 (bit_lt (a / 2 ^ 127)) (bit_lt (b / 2 ^ 127)))
    ∙ xor_swap (a * 2 % 2 ^ 128) (b * 2 % 2 ^ 128) (times (a / 2 ^ 127 % 2) 0x87) (times (b / 2 ^ 127 % 2) 0x87)

pub double-zero : double 0 ≡ 0
unfolding double times
double-zero = refl

-- no bit is pushed out
pub double_small : {a : ℕ} → a < 2 ^ 127 → double a ≡ a * 2
unfolding double times
double_small {a} h =
    ap₂ (λ (x y : ℕ). bit_xor x (times (y % 2) 0x87)) (mod-eq_of_lt (shl_lt 127 1 h)) (div-eq_of_lt h)
    ∙ xor_zero_r (a * 2)

-- ---- Horner's rule

pub horner_lt : (b s : ℕ) → b < 2 ^ 128 → s < 2 ^ 128 → (n a : ℕ) → horner b s n a < 2 ^ 128
unfolding horner
horner_lt b s hb hs zero a = hs
horner_lt b s hb hs (suc n) a = xor_lt 128 (double (horner b s n (a / 2))) (times (a % 2) b) (double_lt (horner b s n (a / 2))) (times_lt (a % 2) hb)

-- linear in the second factor and in the first
pub horner_add : (b c s t n a : ℕ) → horner (bit_xor b c) (bit_xor s t) n a ≡ bit_xor (horner b s n a) (horner c t n a)
unfolding horner
horner_add b c s t zero a = refl
horner_add b c s t (suc n) a =
    ap₂ bit_xor (ap double (horner_add b c s t n (a / 2)) ∙ double_add (horner b s n (a / 2)) (horner c t n (a / 2))) (times_add (a % 2) b c)
    ∙ xor_swap (double (horner b s n (a / 2))) (double (horner c t n (a / 2))) (times (a % 2) b) (times (a % 2) c)

pub horner_add_l : (b s t n a c : ℕ) → horner b (bit_xor s t) n (bit_xor a c) ≡ bit_xor (horner b s n a) (horner b t n c)
unfolding horner
horner_add_l b s t zero a c = refl
horner_add_l b s t (suc n) a c =
    ap₂ bit_xor
    (ap (λ (x : ℕ). double (horner b (bit_xor s t) n x)) (xor_half a c)
    ∙ ap double (horner_add_l b s t n (a / 2) (c / 2))
    ∙ double_add (horner b s n (a / 2)) (horner b t n (c / 2)))
    (ap (λ (x : ℕ). times x b) (xor_bit a c) ∙ bits_add (a % 2) (c % 2) b (bit_lt a) (bit_lt c))
    ∙ xor_swap (double (horner b s n (a / 2))) (double (horner b t n (c / 2))) (times (a % 2) b) (times (c % 2) b)

-- a map that is linear and commutes with doubling passes through
module _ (f : ℕ → ℕ) (f-zero : f 0 ≡ 0) (f-add : (a b : ℕ) → f (bit_xor a b) ≡ bit_xor (f a) (f b)) (f-double : (a : ℕ) → f (double a) ≡ double (f a)) where
  f_times : (x b : ℕ) → f (times x b) ≡ times x (f b)
  unfolding times
  f_times zero b = f-zero
  f_times (suc x) b = refl

  pub through : (b s n a : ℕ) → f (horner b s n a) ≡ horner (f b) (f s) n a
  unfolding horner
  through b s zero a = refl
  through b s (suc n) a =
      f-add (double (horner b s n (a / 2))) (times (a % 2) b)
      ∙ ap₂ bit_xor (f-double (horner b s n (a / 2)) ∙ ap double (through b s n (a / 2))) (f_times (a % 2) b)

-- ---- the product

pub mul_lt : (a : ℕ) {b : ℕ} → b < 2 ^ 128 → mul a b < 2 ^ 128
unfolding mul
mul_lt a {b} h = horner_lt b 0 h (lit< tt) 128 a

pub mul_add : (a b c : ℕ) → mul a (bit_xor b c) ≡ bit_xor (mul a b) (mul a c)
unfolding mul
mul_add a b c = horner_add b c 0 0 128 a

pub add-mul : (a b c : ℕ) → mul (bit_xor a b) c ≡ bit_xor (mul a c) (mul b c)
unfolding mul
add-mul a b c = horner_add_l c 0 0 128 a b

pub mul-double : (a b : ℕ) → mul a (double b) ≡ double (mul a b)
unfolding mul
mul-double a b = ap (λ (s : ℕ). horner (double b) s 128 a) (sym double-zero) ∙ sym (through double double-zero double_add (λ c. refl) b 0 128 a)

pub times_zero : (x : ℕ) → times x 0 ≡ 0
unfolding times
times_zero zero = refl
times_zero (suc x) = refl

horner-zero_r : (n a : ℕ) → horner 0 0 n a ≡ 0
unfolding horner
horner-zero_r zero a = refl
horner-zero_r (suc n) a = ap₂ (λ (x y : ℕ). bit_xor (double x) y) (horner-zero_r n (a / 2)) (times_zero (a % 2)) ∙ ap (λ (x : ℕ). bit_xor x 0) double-zero

pub mul-zero_r : (a : ℕ) → mul a 0 ≡ 0
unfolding mul
mul-zero_r a = horner-zero_r 128 a

pub horner-zero_l : (b n : ℕ) → horner b 0 n 0 ≡ 0
unfolding horner times
horner-zero_l b zero = refl
horner-zero_l b (suc n) = ap (λ (x : ℕ). bit_xor (double x) 0) (horner-zero_l b n) ∙ ap (λ (x : ℕ). bit_xor x 0) double-zero

pub mul-zero_l : (b : ℕ) → mul 0 b ≡ 0
unfolding mul
mul-zero_l b = horner-zero_l b 128

horner_one_l : (b n : ℕ) → horner b 0 (suc n) 1 ≡ b
unfolding horner times
horner_one_l b n = ap (λ (x : ℕ). bit_xor (double x) b) (horner-zero_l b n) ∙ ap (λ (x : ℕ). bit_xor x b) double-zero

pub mul_one_l : (b : ℕ) → mul 1 b ≡ b
unfolding mul
mul_one_l b = horner_one_l b 127

-- x is block 2
pub mul_two_l : (b : ℕ) → mul 2 b ≡ double b
unfolding mul horner times
mul_two_l b = ap (λ (x : ℕ). bit_xor (double x) 0) (horner_one_l b 126) ∙ xor_zero_r (double b)

-- 1 ⊕ x is block 3
pub mul_three_l : (b : ℕ) → mul 3 b ≡ bit_xor (double b) b
unfolding mul horner times
mul_three_l b = ap (λ (x : ℕ). bit_xor (double x) b) (horner_one_l b 126)

-- the product by x^k where nothing is to be reduced
horner_pow : (b j : ℕ) → b < 2 ^ j → (k n : ℕ) → k < n → j + k ≤ 128 → horner b 0 n (2 ^ k) ≡ b * 2 ^ k
unfolding horner times
horner_pow b j h k zero p l = absurd (not-suc-le-zero p)
horner_pow b j h zero (suc n) p l = horner_one_l b n ∙ sym (mul-one b)
horner_pow b j h (suc k) (suc n) p l =
    ap₂ (λ (x y : ℕ). bit_xor (double (horner b 0 n x)) (times y b))
    (ap (λ (x : ℕ). x / 2) (pow-suc 2 k) ∙ shl-shr (2 ^ k) 1) (ap (λ (x : ℕ). x % 2) (pow-suc 2 k) ∙ mul-mod_left (2 ^ k) 2)
    ∙ xor_zero_r (double (horner b 0 n (2 ^ k)))
    ∙ ap double (horner_pow b j h k n (le_of_suc-le-suc p) (omega arith))
    ∙ double_small (lt_of_lt_of_le (shl_lt j k h) (pow_mono {i = j + k} {j = 127} (omega arith)))
    ∙ N.mul_assoc b (2 ^ k) 2 ∙ ap (λ (x : ℕ). b * x) (sym (pow-suc 2 k))

pub mul_pow : (k j : ℕ) {b : ℕ} → b < 2 ^ j → j + k ≤ 128 → k < 128 → mul (2 ^ k) b ≡ b * 2 ^ k
unfolding mul
mul_pow k j {b} h l p = horner_pow b j h k 128 p l

pub mul_left_comm : (a b c : ℕ) → mul a (mul b c) ≡ mul b (mul a c)
unfolding mul
mul_left_comm a b c =
    ap (λ (s : ℕ). horner (mul b c) s 128 a) (sym (mul-zero_r b))
    ∙ sym (through (mul b) (mul-zero_r b) (mul_add b) (mul-double b) c 0 128 a)

-- ---- with one as the second factor Horner's rule gives the number back

times_one : (x : ℕ) → x < 2 → times x 1 ≡ x
unfolding times
times_one = bit-cases (λ (x : ℕ). times x 1 ≡ x) refl refl

horner_one : (n a : ℕ) → n ≤ 128 → horner 1 0 n a ≡ a % 2 ^ n
unfolding horner
horner_one zero a h = sym (mod-one a)
horner_one (suc n) a h =
    ap₂ (λ (x y : ℕ). bit_xor (double x) y) (horner_one n (a / 2) (le_of_suc-le h)) (times_one (a % 2) (bit_lt a))
    ∙ ap (λ (x : ℕ). bit_xor x (a % 2)) (double_small (lt_of_lt_of_le (mod-lt (a / 2) (pow_pos n)) (pow_mono {i = n} {j = 127} (omega arith))))
    ∙ xor_shifted (a / 2 % 2 ^ n) 1 (a % 2) (bit_lt a)
    ∙ sym (ap (λ (k : ℕ). a % 2 ^ k) (sym (add-one n)) ∙ mod-pow-add a n 1)

pub mul_one_r : {a : ℕ} → a < 2 ^ 128 → mul a 1 ≡ a
unfolding mul
mul_one_r {a} h = horner_one 128 a (lit≤ tt) ∙ mod-eq_of_lt h

pub mul_comm : {a b : ℕ} → a < 2 ^ 128 → b < 2 ^ 128 → mul a b ≡ mul b a
mul_comm {a} {b} ha hb = ap (mul a) (sym (mul_one_r hb)) ∙ mul_left_comm a b 1 ∙ ap (mul b) (mul_one_r ha)

pub mul_assoc : {a b c : ℕ} → a < 2 ^ 128 → b < 2 ^ 128 → c < 2 ^ 128 → mul (mul a b) c ≡ mul a (mul b c)
mul_assoc {a} {b} {c} ha hb hc = mul_comm (mul_lt a hb) hc ∙ mul_left_comm c a b ∙ ap (mul a) (mul_comm hc hb)

-- below a smaller power of two
pub below : {n : ℕ} (j : ℕ) → n < 2 ^ j → j ≤ 128 → n < 2 ^ 128
below j h l = lt_of_lt_of_le h (pow_mono {i = j} {j = 128} l)

-- x · x^127
row_b : mul 2 0x80000000000000000000000000000000 ≡ 0x87
unfolding mul horner double times
row_b = refl

-- x^k · x^(128 - k)
pub x¹²⁸ : (k : ℕ) → 0 < k → k < 128 → mul (2 ^ k) (2 ^ (128 - k)) ≡ 0x87
x¹²⁸ k pos hk =
    let before : k ≡ k - 1 + 1 = omega arith in
    let all : 128 - k + (k - 1) ≡ 127 = omega arith in
    let y-lt : 2 ^ (128 - k) < 2 ^ (129 - k) = pow-lt {i = 128 - k} {j = 129 - k} (omega arith) in
    ap (λ (e : ℕ). mul (2 ^ e) (2 ^ (128 - k))) before
    ∙ ap (λ (x : ℕ). mul x (2 ^ (128 - k))) (pow-add 2 (k - 1) 1 ∙ sym (mul_pow 1 k (pow-lt {i = k - 1} {j = k} (omega arith)) (omega arith) (lit< tt)))
    ∙ mul_assoc (lit< tt) (pow-lt {i = k - 1} {j = 128} (omega arith)) (pow-lt {i = 128 - k} {j = 128} (omega arith))
    ∙ ap (mul 2) (mul_pow (k - 1) (129 - k) y-lt (omega arith) (omega arith) ∙ sym (pow-add 2 (128 - k) (k - 1)) ∙ ap (λ (e : ℕ). 2 ^ e) all)
    ∙ row_b

-- ---- inverses

pub inverse : {a b y : ℕ} → a < 2 ^ 128 → b < 2 ^ 128 → mul a b ≡ 1 → y < 2 ^ 128 → mul a (mul b y) ≡ y
inverse {a} {b} {y} ha hb e hy = sym (mul_assoc ha hb hy) ∙ ap (λ (x : ℕ). mul x y) e ∙ mul_one_l y

x_x⁻¹ : mul 2 x⁻¹ ≡ 1
unfolding mul horner double times
x_x⁻¹ = refl

1⊕x_1⊕x⁻¹ : mul 3 1⊕x⁻¹ ≡ 1
unfolding mul horner double times
1⊕x_1⊕x⁻¹ = refl

pub x_inverse : {y : ℕ} → y < 2 ^ 128 → mul 2 (mul x⁻¹ y) ≡ y
x_inverse = inverse (lit< tt) (lit< tt) x_x⁻¹

pub x⁻¹-inverse : {y : ℕ} → y < 2 ^ 128 → mul x⁻¹ (mul 2 y) ≡ y
x⁻¹-inverse {y} h = mul_left_comm x⁻¹ 2 y ∙ x_inverse h

pub 1⊕x_inverse : {y : ℕ} → y < 2 ^ 128 → mul 3 (mul 1⊕x⁻¹ y) ≡ y
1⊕x_inverse = inverse (lit< tt) (lit< tt) 1⊕x_1⊕x⁻¹

pub 1⊕x⁻¹-inverse : {y : ℕ} → y < 2 ^ 128 → mul 1⊕x⁻¹ (mul 3 y) ≡ y
1⊕x⁻¹-inverse {y} h = mul_left_comm 1⊕x⁻¹ 3 y ∙ 1⊕x_inverse h

-- ---- all of them, as stated

row_a : mul 2 0x01 ≡ 0x02
unfolding mul horner double times
row_a = refl

pub field_laws : FieldLaws
field_laws = record {
  add_assoc = xor_assoc;
  add_comm = xor_comm;
  add_zero = xor_zero_r;
  add_cancel = xor_cancel;
  add_closed = λ a b p q. xor_lt 128 a b p q;
  double_closed = double_lt;
  double_linear = double_add;
  mul_closed = λ a b h. mul_lt a h;
  mul_linear = mul_add;
  linear_mul = add-mul;
  mul_comm = λ a b p q. mul_comm p q;
  mul_assoc = λ a b c p q r. mul_assoc p q r;
  zero_mul = mul-zero_l;
  mul_zero = mul-zero_r;
  one_mul = mul_one_l;
  x_mul = mul_two_l;
  1⊕x_mul = mul_three_l;
  x_after = λ y h. x_inverse h;
  x_before = λ y h. x⁻¹-inverse h;
  1⊕x_after = λ y h. 1⊕x_inverse h;
  1⊕x_before = λ y h. 1⊕x⁻¹-inverse h;
  row_a = row_a;
  row_b = row_b;
}
