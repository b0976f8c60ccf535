-- Undoing the products by x and by 1 + x. Assumes nothing.
use Rattle.std.proofs.Common.{◌≡◌, ℕ, ◌+◌, ◌*◌, ◌/◌, ◌%◌, ◌^◌, ◌<◌, sym, refl, ap, ◌∙◌, ap₂, lt_of_lt_of_le, mod-lt, div-add-mod', zero-add, arith, lit<, lit≤, shr_lt}
use native.Mathlib.Nat.{mul-mod_left}
use lib.Arith.{digits_lt}
use lib.Bits.{bit_xor, bit_or, bit_and, xor_block, xor_comm, xor_zero_r, xor_self, xor_lt, xor_shifted}
use Rattle.block.proofs.Bits.{bit-cases, bit_lt, xor_assoc, xor_swap, xor_cancel_r}
use Rattle.block.specs.Field.{times, double, horner, mul, x⁻¹, 1⊕x⁻¹}
use Rattle.block.proofs.Field.{times_lt, mul_add, mul_two_l, mul_three_l, double_add, double_small, x⁻¹-inverse, 1⊕x⁻¹-inverse}
use Rattle.block.proofs.Words.{ones, under_mask, shl_shl, left_mod, left_block, upper_word, high_bits}
use Rattle.block.proofs.Linear.{word_left}

-- ---- a word and its shift by k

-- x ⊕ (x << k), in 64 bits
abbrev over : ℕ → ℕ → ℕ
over k x = bit_xor x (x * 2 ^ k % 2 ^ 64)

shl_add : (a b k : ℕ) → bit_xor a b * 2 ^ k % 2 ^ 64 ≡ bit_xor (a * 2 ^ k % 2 ^ 64) (b * 2 ^ k % 2 ^ 64)
shl_add a b k = (word_left k).add a b

spread : (j k x : ℕ) → over j (over k x) ≡ bit_xor (bit_xor x (x * 2 ^ k % 2 ^ 64)) (bit_xor (x * 2 ^ j % 2 ^ 64) (x * 2 ^ (k + j) % 2 ^ 64))
spread j k x = ap (bit_xor (over k x)) (shl_add x (x * 2 ^ k % 2 ^ 64) j ∙ ap (bit_xor (x * 2 ^ j % 2 ^ 64)) (shl_shl x k j))

-- shifts pass each other
pass : (j k x : ℕ) → over j (over k x) ≡ over k (over j x)
pass j k x =
    let e : k + j ≡ j + k = omega arith in
    spread j k x
    ∙ ap (λ (n : ℕ). bit_xor (bit_xor x (x * 2 ^ k % 2 ^ 64)) (bit_xor (x * 2 ^ j % 2 ^ 64) (x * 2 ^ n % 2 ^ 64))) e
    ∙ xor_swap x (x * 2 ^ k % 2 ^ 64) (x * 2 ^ j % 2 ^ 64) (x * 2 ^ (j + k) % 2 ^ 64)
    ∙ sym (spread k j x)

-- twice by k is once by 2 k
again : (k x : ℕ) → over k (over k x) ≡ over (k + k) x
again k x =
    spread k k x
    ∙ xor_assoc x (x * 2 ^ k % 2 ^ 64) (bit_xor (x * 2 ^ k % 2 ^ 64) (x * 2 ^ (k + k) % 2 ^ 64))
    ∙ ap (bit_xor x) (sym (xor_assoc (x * 2 ^ k % 2 ^ 64) (x * 2 ^ k % 2 ^ 64) (x * 2 ^ (k + k) % 2 ^ 64)) ∙ ap (λ (y : ℕ). bit_xor y (x * 2 ^ (k + k) % 2 ^ 64)) (xor_self (x * 2 ^ k % 2 ^ 64)))

all_out : (x : ℕ) → over 64 x ≡ x
all_out x = ap (bit_xor x) (mul-mod_left x (2 ^ 64)) ∙ xor_zero_r x

pub prefix_xor_is : (x : ℕ) → over 1 (over 32 (over 16 (over 8 (over 4 (over 2 (over 1 x)))))) ≡ x
prefix_xor_is x =
    pass 1 32 (over 16 (over 8 (over 4 (over 2 (over 1 x)))))
    ∙ ap (over 32)
    (pass 1 16 (over 8 (over 4 (over 2 (over 1 x))))
    ∙ ap (over 16)
    (pass 1 8 (over 4 (over 2 (over 1 x)))
    ∙ ap (over 8)
    (pass 1 4 (over 2 (over 1 x))
    ∙ ap (over 4) (pass 1 2 (over 1 x) ∙ ap (over 2) (again 1 x) ∙ again 2 x)
    ∙ again 4 x)
    ∙ again 8 x)
    ∙ again 16 x)
    ∙ again 32 x ∙ all_out x

-- ---- a block

-- a carry spread over a word
carry : (q : ℕ) → q < 2 → bit_xor (times q ones) (times q ones * 2 % 2 ^ 64) ≡ q
unfolding times
carry = bit-cases (λ (q : ℕ). bit_xor (times q ones) (times q ones * 2 % 2 ^ 64) ≡ q) refl refl

tail : (q : ℕ) → q < 2 → mul 3 (times q 0x7d) ≡ times (q % 2) 0x87
unfolding mul horner double times
tail = bit-cases (λ (q : ℕ). mul 3 (times q 0x7d) ≡ times (q % 2) 0x87) refl refl

-- g and l undo the shifts of the two words; m and n are the masks of the bits that l and then the high word push out
module _ (hi lo g l m n : ℕ) (hl : l < 2 ^ 64) (hg : g < 2 ^ 64) (hm : m < 2 ^ 64) (eg : over 1 g ≡ hi) (el : over 1 l ≡ lo)
    (em : m ≡ times (l / 2 ^ 63) ones) (en : n ≡ times (bit_xor g m / 2 ^ 63) ones) where
  abbrev q : ℕ
  q = l / 2 ^ 63

  q_lt : q < 2
  q_lt = shr_lt 1 63 hl

  abbrev h : ℕ
  h = bit_xor g m

  hh : h < 2 ^ 64
  hh = xor_lt 64 g m hg hm

  abbrev s : ℕ
  s = h * 2 ^ 64 + l

  upper : bit_xor h (h * 2 % 2 ^ 64) ≡ bit_xor hi q
  upper =
      ap (bit_xor h) (shl_add g m 1) ∙ xor_swap g m (g * 2 % 2 ^ 64) (m * 2 % 2 ^ 64)
      ∙ ap₂ bit_xor eg (ap (over 1) em ∙ carry q q_lt)

  -- the sum with the shifted block
  sum : bit_xor (s * 2 % 2 ^ 128) s ≡ hi * 2 ^ 64 + lo
  sum =
      ap (λ (x : ℕ). bit_xor x s) (left_block 1 h l (lit≤ tt) hl)
      ∙ xor_block 64 (h % 2 ^ 63 * 2 + q) h (l * 2 % 2 ^ 64) l (mod-lt (l * 2) (lit< tt)) hl
      ∙ ap₂ (λ (x y : ℕ). x * 2 ^ 64 + y)
      (xor_comm (h % 2 ^ 63 * 2 + q) h
      ∙ ap (bit_xor h) (sym (xor_shifted (h % 2 ^ 63) 1 q q_lt) ∙ ap (λ (x : ℕ). bit_xor x q) (sym (left_mod 64 1 h (lit≤ tt))))
      ∙ sym (xor_assoc h (h * 2 % 2 ^ 64) q)
      ∙ ap (λ (x : ℕ). bit_xor x q) upper ∙ xor_cancel_r hi q)
      (xor_comm (l * 2 % 2 ^ 64) l ∙ el)

  abbrev o : ℕ
  o = h / 2 ^ 63

  o_lt : o < 2
  o_lt = shr_lt 1 63 hh

  abbrev rest : ℕ
  rest = times o 0x7d

  rest_lt : rest < 2 ^ 64
  rest_lt = times_lt o (lit< tt)

  three : mul 3 (bit_xor s rest) ≡ hi * 2 ^ 64 + lo
  unfolding double
  three =
      let t = times (o % 2) 0x87 in
      let d = s * 2 % 2 ^ 128 in
      mul_add 3 s rest
      ∙ ap₂ bit_xor
      (mul_three_l s ∙ ap (λ (y : ℕ). bit_xor (bit_xor d (times (y % 2) 0x87)) s) (high_bits 63 h l hl))
      (tail o o_lt)
      ∙ ap (λ (y : ℕ). bit_xor y t) (ap (λ (y : ℕ). bit_xor y s) (xor_comm d t) ∙ xor_assoc t d s ∙ xor_comm t (bit_xor d s))
      ∙ xor_cancel_r (bit_xor d s) t
      ∙ sum

  whole_lt : bit_xor s rest < 2 ^ 128
  whole_lt = xor_lt 128 s rest (digits_lt {m = 2 ^ 64} {c = 2 ^ 64} hh hl) (lt_of_lt_of_le rest_lt (lit≤ tt))

  pub undone_triple : bit_xor g m * 2 ^ 64 + bit_xor l (bit_and n 0x7d) ≡ mul 1⊕x⁻¹ (hi * 2 ^ 64 + lo)
  undone_triple =
      ap₂ (λ (x y : ℕ). x * 2 ^ 64 + bit_xor l y) (sym (xor_zero_r h)) (under_mask o en (lit< tt))
      ∙ sym (xor_block 64 h 0 l rest hl rest_lt) ∙ ap (bit_xor s) (zero-add rest)
      ∙ sym (1⊕x⁻¹-inverse whole_lt) ∙ ap (mul 1⊕x⁻¹) three

-- ---- x

regroup : (a b c d : ℕ) → (a * 2 ^ 64 + (b * 2 ^ 63 + c)) * 2 + d ≡ (a * 2 + b) * 2 ^ 64 + (c * 2 + d)
regroup a b c d = omega arith

halved : (q : ℕ) → q < 2 → double (times q 0x8000_0000_0000_0000 * 2 ^ 64 + times q 0x43) ≡ q
unfolding double times
halved = bit-cases (λ (q : ℕ). double (times q 0x8000_0000_0000_0000 * 2 ^ 64 + times q 0x43) ≡ q) refl refl

top : (q : ℕ) → q < 2 → q * 2 ^ 63 ≡ times q 0x8000_0000_0000_0000
unfolding times
top = bit-cases (λ (q : ℕ). q * 2 ^ 63 ≡ times q 0x8000_0000_0000_0000) refl refl

-- m is the mask of the bit pushed out
module _ (hi lo m : ℕ) (hh : hi < 2 ^ 64) (hl : lo < 2 ^ 64) (em : m ≡ times (lo % 2) ones) where
  abbrev p : ℕ
  p = lo % 2

  low_small : hi % 2 * 2 ^ 63 + lo / 2 < 2 ^ 64
  low_small = digits_lt {m = 2} {c = 2 ^ 63} (bit_lt hi) (shr_lt 63 1 hl)

  abbrev half : ℕ
  half = hi / 2 * 2 ^ 64 + (hi % 2 * 2 ^ 63 + lo / 2)

  half_lt : half < 2 ^ 127
  half_lt = digits_lt {m = 2 ^ 63} {c = 2 ^ 64} (shr_lt 63 1 hh) low_small

  both : half * 2 + p ≡ hi * 2 ^ 64 + lo
  both = regroup (hi / 2) (hi % 2) (lo / 2) (lo % 2) ∙ ap₂ (λ (x y : ℕ). x * 2 ^ 64 + y) (div-add-mod' hi 2) (div-add-mod' lo 2)

  p_lt : p < 2
  p_lt = bit_lt lo

  abbrev high : ℕ
  high = times p 0x8000_0000_0000_0000

  abbrev low : ℕ
  low = times p 0x43

  low_lt : low < 2 ^ 64
  low_lt = times_lt p (lit< tt)

  abbrev undone : ℕ
  undone = bit_xor half (high * 2 ^ 64 + low)

  undone_lt : undone < 2 ^ 128
  undone_lt =
      xor_lt 128 half (high * 2 ^ 64 + low) (lt_of_lt_of_le half_lt (lit≤ tt))
      (digits_lt {m = 2 ^ 64} {c = 2 ^ 64} (times_lt p (lit< tt)) low_lt)

  doubled : mul 2 undone ≡ hi * 2 ^ 64 + lo
  doubled =
      mul_two_l undone ∙ double_add half (high * 2 ^ 64 + low) ∙ ap₂ bit_xor (double_small half_lt) (halved p p_lt)
      ∙ xor_shifted half 1 p p_lt ∙ both

  high_word : bit_or (lo * 2 ^ 63 % 2 ^ 64) (hi / 2) ≡ bit_xor (hi / 2) high
  high_word =
      upper_word 63 lo hi (lit≤ tt) hh ∙ sym (xor_shifted p 63 (hi / 2) (shr_lt 63 1 hh))
      ∙ ap (λ (x : ℕ). bit_xor x (hi / 2)) (top p p_lt) ∙ xor_comm high (hi / 2)

  pub undone_double : bit_or (lo * 2 ^ 63 % 2 ^ 64) (hi / 2) * 2 ^ 64 + bit_xor (bit_or (hi * 2 ^ 63 % 2 ^ 64) (lo / 2)) (bit_and m 0x43)
      ≡ mul x⁻¹ (hi * 2 ^ 64 + lo)
  undone_double =
      ap₂ (λ (x y : ℕ). x * 2 ^ 64 + y) high_word (ap₂ bit_xor (upper_word 63 hi lo (lit≤ tt) hl) (under_mask p em (lit< tt)))
      ∙ sym (xor_block 64 (hi / 2) high (hi % 2 * 2 ^ 63 + lo / 2) low low_small low_lt)
      ∙ sym (x⁻¹-inverse undone_lt) ∙ ap (mul x⁻¹) doubled
