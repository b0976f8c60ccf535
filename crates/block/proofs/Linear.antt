-- Functions that are linear over ⊕. They are known by their values at the powers of two, which can be computed. Assumes nothing.
use Rattle.std.proofs.Common.{◌≡◌, ℕ, zero, suc, ◌*◌, ◌/◌, ◌%◌, ◌^◌, ◌<◌, List, [], ◌∷◌, sym, refl, ap, ◌∙◌, subst, ap₂, mod-lt, one-mul, zero-mul, one-add, arith, pow_pos, shr_lt}
use mathlib.Core.List.{head-eq_of_cons-eq, tail-eq_of_cons-eq}
use lib.Pow.{split}
use lib.Bits.{bit_xor, bit_and, xor_self, xor_shr, xor_mod, xor_shifted}
use Rattle.block.specs.Field.{mul}
use Rattle.block.proofs.Field.{mul_add}
use Rattle.block.proofs.Bits.{bit-cases, xor_swap, xor_shl, and_add}

pub record Linear (f : ℕ → ℕ) : Type 0 where
  pub add : (a b : ℕ) → f (bit_xor a b) ≡ bit_xor (f a) (f b)

-- ---- what the code does

pub same : Linear (λ x. x)
same = record { add = λ a b. refl }

pub right : (k : ℕ) → Linear (λ x. x / 2 ^ k)
right k = record { add = λ a b. xor_shr a b k }

pub low : (k : ℕ) → Linear (λ x. x % 2 ^ k)
low k = record { add = λ a b. xor_mod a b k }

pub left : (k : ℕ) → Linear (λ x. x * 2 ^ k)
left k = record { add = λ a b. xor_shl a b k }

pub mask : (m : ℕ) → Linear (λ x. bit_and x m)
mask m = record { add = λ a b. and_add a b m }

-- a sum, and one after the other
pub sum : {f g : ℕ → ℕ} → Linear f → Linear g → Linear (λ x. bit_xor (f x) (g x))
sum {f} {g} lf lg = record { add = λ a b. ap₂ bit_xor (lf.add a b) (lg.add a b) ∙ xor_swap (f a) (f b) (g a) (g b) }

pub after : {f g : ℕ → ℕ} → Linear f → Linear g → Linear (λ x. f (g x))
after {f} {g} lf lg = record { add = λ a b. ap f (lg.add a b) ∙ lf.add (g a) (g b) }

-- a shift left within a word
pub word_left : (k : ℕ) → Linear (λ x. x * 2 ^ k % 2 ^ 64)
word_left k = after (low 64) (left k)

-- the product by an element
pub mul_linear : (a : ℕ) → Linear (mul a)
mul_linear a = record { add = mul_add a }

-- ---- two that agree on the bits

linear_zero : (f : ℕ → ℕ) → Linear f → f 0 ≡ 0
linear_zero f l = l.add 0 0 ∙ xor_self (f 0)

-- the values at the powers of two below 2 ^ n
abbrev pub on_bits : (ℕ → ℕ) → ℕ → List ℕ
on_bits f zero = []
on_bits f (suc n) = f (2 ^ n) ∷ on_bits f n

-- functions that are the same there are the same below 2 ^ n
module _ (f g : ℕ → ℕ) (lf : Linear f) (lg : Linear g) where
  at_zero : f 0 ≡ g 0
  at_zero = linear_zero f lf ∙ sym (linear_zero g lg)

  at_bit : (n : ℕ) → f (2 ^ n) ≡ g (2 ^ n) → (q : ℕ) → q < 2 → f (q * 2 ^ n) ≡ g (q * 2 ^ n)
  at_bit n e =
      bit-cases (λ (q : ℕ). f (q * 2 ^ n) ≡ g (q * 2 ^ n)) (subst (λ (x : ℕ). f x ≡ g x) (sym (zero-mul (2 ^ n))) at_zero)
      (subst (λ (x : ℕ). f x ≡ g x) (sym (one-mul (2 ^ n))) e)

  pub agree : (n : ℕ) → on_bits f n ≡ on_bits g n → (x : ℕ) → x < 2 ^ n → f x ≡ g x
  agree zero e zero h = at_zero
  agree zero e (suc x) h = absurd (omega arith)
  agree (suc n) e x h =
      let q : ℕ = x / 2 ^ n in
      let r : ℕ = x % 2 ^ n in
      let hq : q < 2 = shr_lt 1 n (subst (λ (k : ℕ). x < 2 ^ k) (sym (one-add n)) h) in
      let hr : r < 2 ^ n = mod-lt x (pow_pos n) in
      let whole : bit_xor (q * 2 ^ n) r ≡ x = xor_shifted q n r hr ∙ split x n in
      ap f (sym whole) ∙ lf.add (q * 2 ^ n) r
      ∙ ap₂ bit_xor (at_bit n (head-eq_of_cons-eq e) q hq) (agree n (tail-eq_of_cons-eq e) r hr)
      ∙ sym (lg.add (q * 2 ^ n) r) ∙ ap g whole
