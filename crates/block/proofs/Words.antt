-- Blocks as two words of 64 bits. Assumes nothing.
use Rattle.std.proofs.Common.{◌≡◌, ℕ, zero, suc, ◌+◌, ◌-◌, ◌*◌, ◌/◌, ◌%◌, ◌^◌, ◌<◌, ◌≤◌, Bool, true, false, ◌&&◌, eqb, sym, refl, ap, ◌∙◌, subst, ap₂, lt_of_le_of_lt, add-zero, mod-lt, mod-eq_of_lt, mul_assoc, add-mul, div-add-mod', zero-add, mul_right_comm, arith, lit<, lit≤, pow_pos, pow-add, shr-shr, shr_lt, eq-eqb, ne_eqb, eqb-true}
use native.Mathlib.Nat.{mul-add-div_right, mul-add-mod_self_right}
use lib.Pow.{high, low, mod-pow-add, shl-shr}
use lib.Bits.{bit_xor, bit_or, bit_and, xor_block, xor_zero_r, or_shifted, or_add_and, or_zero_l, and_comm, and_mask, and_le_l, and_le_r}
use borrow.Author.Tests.{eqb-false}
use Rattle.block.specs.declared.Block.{Block}
use Rattle.block.specs.Field.{times, double}
use Rattle.block.specs.Value.{value}

-- ---- a bit spread over a word

abbrev pub ones : ℕ
ones = 0xffff_ffff_ffff_ffff

-- what a wrapping subtraction from zero gives
pub spread_bit : (q r : ℕ) → q < 2 → r < 2 ^ 64 → (r + q) % 2 ^ 64 ≡ 0 → r ≡ times q ones
unfolding times
spread_bit zero r hq hr e = omega arith
spread_bit (suc zero) r hq hr e = omega arith
spread_bit (suc (suc q)) r hq hr e = absurd (omega arith)

-- a word under it
pub under_mask : {m c : ℕ} (q : ℕ) → m ≡ times q ones → c < 2 ^ 64 → bit_and m c ≡ times q c
unfolding times
under_mask {m} {c} zero e h = ap (λ (x : ℕ). bit_and x c) e
under_mask {m} {c} (suc q) e h = ap (λ (x : ℕ). bit_and x c) e ∙ and_comm ones c ∙ and_mask c 64 ∙ mod-eq_of_lt h

-- ---- a shift left by k bits

-- in w bits, and then q in the bits that it leaves free
left_joined : (w k h q : ℕ) → k ≤ w → q < 2 ^ k → (h * 2 ^ k + q) % 2 ^ w ≡ h % 2 ^ (w - k) * 2 ^ k + q
left_joined w k h q hk hq =
    let parts : w ≡ w - k + k = omega arith in
    ap (λ (e : ℕ). (h * 2 ^ k + q) % 2 ^ e) parts ∙ mod-pow-add (h * 2 ^ k + q) (w - k) k
    ∙ ap₂ (λ (x y : ℕ). x % 2 ^ (w - k) * 2 ^ k + y) (high h k hq) (low h k hq)

pub left_mod : (w k h : ℕ) → k ≤ w → h * 2 ^ k % 2 ^ w ≡ h % 2 ^ (w - k) * 2 ^ k
left_mod w k h hk =
    ap (λ (x : ℕ). x % 2 ^ w) (sym (add-zero (h * 2 ^ k))) ∙ left_joined w k h 0 hk (pow_pos k) ∙ add-zero (h % 2 ^ (w - k) * 2 ^ k)

-- one after the other
mod_times : (x k m : ℕ) → x % m * k % m ≡ x * k % m
mod_times x k m =
    sym
    (ap (λ (y : ℕ). y * k % m) (sym (div-add-mod' x m))
    ∙ ap (λ (y : ℕ). y % m) (add-mul (x / m * m) (x % m) k ∙ ap (λ (y : ℕ). y + x % m * k) (mul_right_comm (x / m) m k))
    ∙ mul-add-mod_self_right (x / m * k) m (x % m * k))

pub shl_shl : (x j k : ℕ) → x * 2 ^ j % 2 ^ 64 * 2 ^ k % 2 ^ 64 ≡ x * 2 ^ (j + k) % 2 ^ 64
shl_shl x j k =
    mod_times (x * 2 ^ j) (2 ^ k) (2 ^ 64)
    ∙ ap (λ (y : ℕ). y % 2 ^ 64) (mul_assoc x (2 ^ j) (2 ^ k) ∙ ap (λ (y : ℕ). x * y) (sym (pow-add 2 j k)))

-- what it does to two words, h and l
module _ (k h l : ℕ) (hk : k ≤ 64) (hl : l < 2 ^ 64) where
  parts : 64 ≡ k + (64 - k)
  parts = omega arith

  carried : l * 2 ^ k / 2 ^ 64 ≡ l / 2 ^ (64 - k)
  carried =
      ap (λ (e : ℕ). l * 2 ^ k / 2 ^ e) parts ∙ sym (shr-shr (l * 2 ^ k) k (64 - k))
      ∙ ap (λ (x : ℕ). x / 2 ^ (64 - k)) (shl-shr l k)

  carry_lt : l / 2 ^ (64 - k) < 2 ^ k
  carry_lt = shr_lt k (64 - k) (subst (λ (e : ℕ). l < 2 ^ e) parts hl)

  pub upper_word : bit_or (h * 2 ^ k % 2 ^ 64) (l / 2 ^ (64 - k)) ≡ h % 2 ^ (64 - k) * 2 ^ k + l / 2 ^ (64 - k)
  upper_word = ap (λ (x : ℕ). bit_or x (l / 2 ^ (64 - k))) (left_mod 64 k h hk) ∙ or_shifted (h % 2 ^ (64 - k)) k (l / 2 ^ (64 - k)) carry_lt

  regroup : (h * 2 ^ 64 + l) * 2 ^ k ≡ h * 2 ^ k * 2 ^ 64 + l * 2 ^ k
  regroup = add-mul (h * 2 ^ 64) l (2 ^ k) ∙ ap (λ (x : ℕ). x + l * 2 ^ k) (mul_right_comm h (2 ^ 64) (2 ^ k))

  pub left_block : (h * 2 ^ 64 + l) * 2 ^ k % 2 ^ 128 ≡ (h % 2 ^ (64 - k) * 2 ^ k + l / 2 ^ (64 - k)) * 2 ^ 64 + l * 2 ^ k % 2 ^ 64
  left_block =
      ap (λ (x : ℕ). x % 2 ^ 128) regroup ∙ mod-pow-add (h * 2 ^ k * 2 ^ 64 + l * 2 ^ k) 64 64
      ∙ ap₂ (λ (x y : ℕ). x * 2 ^ 64 + y)
      (ap (λ (x : ℕ). x % 2 ^ 64) (mul-add-div_right (lit< {m = 0} {n = 2 ^ 64} tt) (h * 2 ^ k) (l * 2 ^ k) ∙ ap (λ (x : ℕ). h * 2 ^ k + x) carried)
      ∙ left_joined 64 k h (l / 2 ^ (64 - k)) hk carry_lt)
      (mul-add-mod_self_right (h * 2 ^ k) (2 ^ 64) (l * 2 ^ k))

  -- and then ⊕ r at the low end
  pub left_words : (r : ℕ) → r < 2 ^ 64
      → bit_or (h * 2 ^ k % 2 ^ 64) (l / 2 ^ (64 - k)) * 2 ^ 64 + bit_xor (l * 2 ^ k % 2 ^ 64) r ≡ bit_xor ((h * 2 ^ 64 + l) * 2 ^ k % 2 ^ 128) r
  left_words r hr =
      let u = h % 2 ^ (64 - k) * 2 ^ k + l / 2 ^ (64 - k) in
      ap (λ (x : ℕ). x * 2 ^ 64 + bit_xor (l * 2 ^ k % 2 ^ 64) r) (upper_word ∙ sym (xor_zero_r u))
      ∙ sym (xor_block 64 u 0 (l * 2 ^ k % 2 ^ 64) r (mod-lt (l * 2 ^ k) (lit< tt)) hr)
      ∙ ap₂ bit_xor (sym left_block) (zero-add r)

-- the bits from 64 + j on are those of the high word
pub high_bits : (j h l : ℕ) → l < 2 ^ 64 → (h * 2 ^ 64 + l) / 2 ^ (64 + j) ≡ h / 2 ^ j
high_bits j h l hl = sym (shr-shr (h * 2 ^ 64 + l) 64 j) ∙ ap (λ (x : ℕ). x / 2 ^ j) (high h 64 hl)

-- ---- doubling

module _ (h l : ℕ) (hh : h < 2 ^ 64) (hl : l < 2 ^ 64) where
  reduction : {m : ℕ} → m ≡ times (h / 2 ^ 63) ones → bit_and m 0x87 ≡ times ((h * 2 ^ 64 + l) / 2 ^ 127 % 2) 0x87
  reduction e =
      under_mask (h / 2 ^ 63) e (lit< tt)
      ∙ ap (λ (x : ℕ). times x 0x87) (sym (mod-eq_of_lt (shr_lt 1 63 hh))) ∙ ap (λ (x : ℕ). times (x % 2) 0x87) (sym (high_bits 63 h l hl))

  pub double_words : (m : ℕ) → m ≡ times (h / 2 ^ 63) ones
      → bit_or (h * 2 % 2 ^ 64) (l / 2 ^ 63) * 2 ^ 64 + bit_xor (l * 2 % 2 ^ 64) (bit_and m 0x87) ≡ double (h * 2 ^ 64 + l)
  unfolding double
  double_words m e =
      left_words 1 h l (lit≤ tt) hl (bit_and m 0x87) (lt_of_le_of_lt (and_le_r m 0x87) (lit< tt))
      ∙ ap (bit_xor ((h * 2 ^ 64 + l) * 2 % 2 ^ 128)) (reduction e)

-- ---- the sum

pub xor_words : (h k l m : ℕ) → l < 2 ^ 64 → m < 2 ^ 64 → bit_xor h k * 2 ^ 64 + bit_xor l m ≡ bit_xor (h * 2 ^ 64 + l) (k * 2 ^ 64 + m)
xor_words h k l m hl hm = sym (xor_block 64 h k l m hl hm)

-- ---- blocks are equal exactly if their words are

words_equal : (h k l m : ℕ) → h ≡ k → eqb l m ≡ eqb (h * 2 ^ 64 + l) (k * 2 ^ 64 + m)
words_equal h k l m e = go (eqb l m) refl
  where
    go : (t : Bool) → eqb l m ≡ t → eqb l m ≡ eqb (h * 2 ^ 64 + l) (k * 2 ^ 64 + m)
    go true p = let q = eqb-true l m p in p ∙ sym (eq-eqb (h * 2 ^ 64 + l) (k * 2 ^ 64 + m) (omega arith))
    go false p = p ∙ sym (ne_eqb (h * 2 ^ 64 + l) (k * 2 ^ 64 + m) (λ q. eqb-false l m p (omega arith)))

words_differ : (h k l m : ℕ) → l < 2 ^ 64 → m < 2 ^ 64 → (h ≡ k → ⊥) → false ≡ eqb (h * 2 ^ 64 + l) (k * 2 ^ 64 + m)
words_differ h k l m p q n = sym (ne_eqb (h * 2 ^ 64 + l) (k * 2 ^ 64 + m) (λ e. n (omega arith)))

-- what `==` of blocks tells
pub equal_blocks : (a b : Block) → a.lo < 2 ^ 64 → b.lo < 2 ^ 64 → (eqb a.hi b.hi && eqb a.lo b.lo) ≡ eqb (value a) (value b)
unfolding value
equal_blocks a b p q = go (eqb a.hi b.hi) refl
  where
    go : (t : Bool) → eqb a.hi b.hi ≡ t → (t && eqb a.lo b.lo) ≡ eqb (a.hi * 2 ^ 64 + a.lo) (b.hi * 2 ^ 64 + b.lo)
    go true e = words_equal a.hi b.hi a.lo b.lo (eqb-true a.hi b.hi e)
    go false e = words_differ a.hi b.hi a.lo b.lo p q (eqb-false a.hi b.hi e)

-- ---- a block is zero exactly if its words are, which their or tells

pub both_zero : (h l : ℕ) → bit_or h l ≡ 0 → h * 2 ^ 64 + l ≡ 0
both_zero h l e =
    let a : h ≡ 0 = omega (arith, or_add_and h l, and_le_r h l) in
    let b : l ≡ 0 = omega (arith, or_add_and h l, and_le_l h l) in
    ap₂ (λ (x y : ℕ). x * 2 ^ 64 + y) a b

pub not_both_zero : (h l : ℕ) → (bit_or h l ≡ 0 → ⊥) → h * 2 ^ 64 + l ≡ 0 → ⊥
not_both_zero h l n e =
    let a : h ≡ 0 = omega arith in
    let b : l ≡ 0 = omega arith in
    n (ap (λ (x : ℕ). bit_or x l) a ∙ or_zero_l l ∙ b)
