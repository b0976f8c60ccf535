-- Squares, word by word. Assumes nothing.
use Rattle.std.proofs.Common.{◌≡◌, ℕ, ◌+◌, ◌*◌, ◌/◌, ◌%◌, ◌^◌, ◌<◌, ◌≤◌, sym, refl, ap, ◌∙◌, subst, ap₂, lt_of_le_of_lt, mod-lt, mod-eq_of_lt, arith, lit<, lit≤, shr_lt}
use lib.Arith.{digits_lt}
use lib.Pow.{pow-lt, shr_le, split}
use lib.Pow as P
use lib.Bits.{bit_xor, bit_and, xor_lt, xor_mod, xor_shifted}
use Rattle.block.specs.Field.{times, double, horner, mul}
use Rattle.block.proofs.Bits.{xor_assoc, xor_cancel}
use Rattle.block.proofs.Field.{mul_lt, mul_add, add-mul, mul_pow, mul_comm, mul_assoc, mul_left_comm, below, x¹²⁸}
use Rattle.block.proofs.Linear.{Linear, same, right, low, left, mask, sum, after, word_left, mul_linear, on_bits, agree}

-- ---- the square of a sum

square_add : {a b : ℕ} → a < 2 ^ 128 → b < 2 ^ 128 → mul (bit_xor a b) (bit_xor a b) ≡ bit_xor (mul a a) (mul b b)
square_add {a} {b} ha hb =
    add-mul a b (bit_xor a b)
    ∙ ap₂ bit_xor (mul_add a a b) (mul_add b a b ∙ ap (λ (x : ℕ). bit_xor x (mul b b)) (mul_comm hb ha))
    ∙ xor_assoc (mul a a) (mul a b) (bit_xor (mul a b) (mul b b))
    ∙ ap (bit_xor (mul a a)) (xor_cancel (mul a b) (mul b b))

-- of u * x^k and v, which lie side by side
module _ (j k u v : ℕ) (hu : u < 2 ^ j) (hv : v < 2 ^ k) (fits : j + k ≤ 128) (hk : k < 128) where
  abbrev xᵏ : ℕ
  xᵏ = 2 ^ k

  xᵏ_lt : xᵏ < 2 ^ 128
  xᵏ_lt = pow-lt hk

  u_lt : u < 2 ^ 128
  u_lt = below j hu (omega arith)

  v_lt : v < 2 ^ 128
  v_lt = below k hv (omega arith)

  shifted : mul xᵏ u ≡ u * 2 ^ k
  shifted = mul_pow k j hu fits hk

  shifted_square : mul (u * 2 ^ k) (u * 2 ^ k) ≡ mul (mul xᵏ xᵏ) (mul u u)
  shifted_square =
      ap (λ (x : ℕ). mul x x) (sym shifted) ∙ mul_assoc xᵏ_lt u_lt (mul_lt xᵏ u_lt) ∙ ap (mul xᵏ) (mul_left_comm u xᵏ u)
      ∙ sym (mul_assoc xᵏ_lt xᵏ_lt (mul_lt u u_lt))

  square_parts : mul (u * 2 ^ k + v) (u * 2 ^ k + v) ≡ bit_xor (mul (mul (2 ^ k) (2 ^ k)) (mul u u)) (mul v v)
  square_parts =
      ap (λ (x : ℕ). mul x x) (sym (xor_shifted u k v hv))
      ∙ square_add (subst (λ (x : ℕ). x < 2 ^ 128) shifted (mul_lt xᵏ u_lt)) v_lt
      ∙ ap (λ (x : ℕ). bit_xor x (mul v v)) shifted_square

-- ---- 32 bits, spread apart

-- x ⊕ (x << k) under the mask m
abbrev masked : ℕ → ℕ → ℕ → ℕ
masked k m x = bit_and (bit_xor x (x * 2 ^ k % 2 ^ 64)) m

masked_linear : (k m : ℕ) → Linear (masked k m)
masked_linear k m = after (mask m) (sum same (word_left k))

abbrev spread : ℕ → ℕ
spread x =
    masked 1 0x5555_5555_5555_5555
    (masked 2 0x3333_3333_3333_3333
    (masked 4 0x0f0f_0f0f_0f0f_0f0f
    (masked 8 0x00ff_00ff_00ff_00ff
    (masked 16 0x0000_ffff_0000_ffff x))))

spread_linear : Linear spread
spread_linear =
    after (masked_linear 1 0x5555_5555_5555_5555)
    (after (masked_linear 2 0x3333_3333_3333_3333)
    (after (masked_linear 4 0x0f0f_0f0f_0f0f_0f0f)
    (after (masked_linear 8 0x00ff_00ff_00ff_00ff) (masked_linear 16 0x0000_ffff_0000_ffff))))

-- the square of the 32 low bits, which is linear whatever the other bits are
abbrev square_low : ℕ → ℕ
square_low x = mul (x % 2 ^ 32) (x % 2 ^ 32)

low_lt : (x : ℕ) → x % 2 ^ 32 < 2 ^ 128
low_lt x = below 32 (mod-lt x (lit< tt)) (lit≤ tt)

square_low_linear : Linear square_low
square_low_linear = record { add = λ a b. ap (λ (x : ℕ). mul x x) (xor_mod a b 32) ∙ square_add (low_lt a) (low_lt b) }

spread_bits : on_bits spread 32 ≡ on_bits square_low 32
unfolding mul horner double times
spread_bits = refl

pub spread_is : (x : ℕ) → x < 2 ^ 32 → spread x ≡ mul x x
spread_is x h =
    agree spread square_low spread_linear square_low_linear 32 spread_bits x h ∙ ap (λ (y : ℕ). mul y y) (mod-eq_of_lt h)

-- ---- a word

x⁶⁴ : mul (2 ^ 32) (2 ^ 32) ≡ 2 ^ 64
unfolding mul horner double times
x⁶⁴ = refl

-- from the squares of its halves
pub word_square : (w : ℕ) {r s : ℕ} → w < 2 ^ 64 → r < 2 ^ 64 → s < 2 ^ 64
    → r ≡ mul (w / 2 ^ 32) (w / 2 ^ 32) → s ≡ mul (w % 2 ^ 32) (w % 2 ^ 32) → r * 2 ^ 64 + s ≡ mul w w
word_square w {r} {s} hw hr hs er es =
    sym (xor_shifted r 64 s hs)
    ∙ ap₂ bit_xor (sym (mul_pow 64 64 hr (lit≤ tt) (lit< tt)) ∙ ap₂ mul (sym x⁶⁴) er) es
    ∙ sym (square_parts 32 32 (w / 2 ^ 32) (w % 2 ^ 32) (shr_lt 32 32 hw) (mod-lt w (lit< tt)) (lit≤ tt) (lit< tt))
    ∙ ap (λ (x : ℕ). mul x x) (split w 32)

-- ---- a block

-- from the squares of its words
pub block_square : (h l : ℕ) → h < 2 ^ 64 → l < 2 ^ 64
    → bit_xor (mul 0x87 (mul h h)) (mul l l) ≡ mul (h * 2 ^ 64 + l) (h * 2 ^ 64 + l)
block_square h l hh hl =
    ap (λ (x : ℕ). bit_xor (mul x (mul h h)) (mul l l)) (sym (x¹²⁸ 64 (lit< tt) (lit< tt)))
    ∙ sym (square_parts 64 64 h l hh hl (lit≤ tt) (lit< tt))

-- ---- the product by 0x87

-- w ⊕ w x ⊕ w x^2 ⊕ w x^7: what stays in the word, and what is pushed out of it
abbrev kept : ℕ → ℕ
kept w = bit_xor (bit_xor (bit_xor w (w * 2 ^ 1 % 2 ^ 64)) (w * 2 ^ 2 % 2 ^ 64)) (w * 2 ^ 7 % 2 ^ 64)

abbrev pushed_out : ℕ → ℕ
pushed_out w = bit_xor (bit_xor (w / 2 ^ 63) (w / 2 ^ 62)) (w / 2 ^ 57)

kept_linear : Linear kept
kept_linear = sum (sum (sum same (word_left 1)) (word_left 2)) (word_left 7)

pushed_out_linear : Linear pushed_out
pushed_out_linear = sum (sum (right 63) (right 62)) (right 57)

kept_lt : {w : ℕ} → w < 2 ^ 64 → kept w < 2 ^ 64
kept_lt {w} h = xor_lt 64 _ _ (xor_lt 64 _ _ (xor_lt 64 _ _ h (mod-lt _ (lit< tt))) (mod-lt _ (lit< tt))) (mod-lt _ (lit< tt))

pushed_out_lt : {w : ℕ} → w < 2 ^ 64 → pushed_out w < 2 ^ 64
pushed_out_lt {w} h = xor_lt 64 _ _ (xor_lt 64 _ _ (out 63) (out 62)) (out 57)
  where
    out : (k : ℕ) → w / 2 ^ k < 2 ^ 64
    out k = lt_of_le_of_lt (shr_le w k) h

-- the product's two words, from h and l
abbrev upper : ℕ → ℕ → ℕ
upper h l = bit_xor (kept h) (pushed_out l)

abbrev lower : ℕ → ℕ → ℕ
lower h l = kept (bit_xor l (pushed_out h))

abbrev product : ℕ → ℕ
product x = bit_xor (upper (x / 2 ^ 64) (x % 2 ^ 64) * 2 ^ 64) (lower (x / 2 ^ 64) (x % 2 ^ 64))

product_linear : Linear product
product_linear =
    sum (after (left 64) (sum (after kept_linear (right 64)) (after pushed_out_linear (low 64))))
    (after kept_linear (sum (low 64) (after pushed_out_linear (right 64))))

product_bits : on_bits product 128 ≡ on_bits (mul 0x87) 128
unfolding mul horner double times
product_bits = refl

pub times_87_is : (h l : ℕ) → h < 2 ^ 64 → l < 2 ^ 64 → upper h l * 2 ^ 64 + lower h l ≡ mul 0x87 (h * 2 ^ 64 + l)
times_87_is h l hh hl =
    sym (xor_shifted (upper h l) 64 (lower h l) (kept_lt (xor_lt 64 l (pushed_out h) hl (pushed_out_lt hh))))
    ∙ ap₂ (λ (x y : ℕ). bit_xor (upper x y * 2 ^ 64) (lower x y)) (sym (P.high h 64 hl)) (sym (P.low h 64 hl))
    ∙ agree product (mul 0x87) product_linear (mul_linear 0x87) 128 product_bits (h * 2 ^ 64 + l)
    (digits_lt {m = 2 ^ 64} {c = 2 ^ 64} hh hl)
