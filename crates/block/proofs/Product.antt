-- The product, some bits of the first factor at a time: `more_bits` and `shift_is` are over their number. A multiple uses one bit, a step
-- four, the two words 64. Assumes nothing.
use Rattle.std.proofs.Common.{◌≡◌, ℕ, ◌+◌, ◌-◌, ◌*◌, ◌/◌, ◌%◌, ◌^◌, ◌<◌, ◌≤◌, List, sym, refl, ap, ◌∙◌, subst, ap₂, lt_of_lt_of_le, add-zero, mod-lt, mod-eq_of_lt, mul_assoc, mul_comm, mul-one, arith, lit<, lit≤, pow_pos, pow_mono, pow-add, shl_lt, shr_lt}
use native.Mathlib.Nat.{div-eq_of_lt}
use lib.Arith.{digits_lt}
use lib.Pow.{pow-lt, shl-shr, split, high}
use lib.Pow as P
use lib.Bits.{bit_xor, bit_or, xor_block, xor_comm, xor_lt, xor_shifted}
use Rattle.block.specs.declared.Block.{Block}
use Rattle.block.specs.Field.{times, double, horner, mul}
use Rattle.block.specs.Tables.{Multiples}
use Rattle.block.specs.Value.{value}
use Rattle.block.proofs.Bits.{xor_assoc}
use Rattle.block.proofs.Field.{mul_add, add-mul, mul_pow, mul-zero_l, mul_two_l, below, x¹²⁸}
use Rattle.block.proofs.Field as F
use Rattle.block.proofs.Linear.{low, after, mul_linear, on_bits, agree}
use Rattle.block.proofs.Words.{shl_shl, left_mod, left_words, high_bits}

-- k bits more: those of n behind those of q
more_bits : (j k q n : ℕ) {b : ℕ} → q < 2 ^ j → n < 2 ^ k → j + k ≤ 128 → k < 128 → b < 2 ^ 128
    → bit_xor (mul (2 ^ k) (mul q b)) (mul n b) ≡ mul (q * 2 ^ k + n) b
more_bits j k q n {b} hq hn fits hk hb =
    ap (λ (x : ℕ). bit_xor x (mul n b)) (sym (F.mul_assoc (pow-lt hk) (below j hq (omega arith)) hb) ∙ ap (λ (x : ℕ). mul x b) (mul_pow k j hq fits hk))
    ∙ sym (add-mul (q * 2 ^ k) n b)
    ∙ ap (λ (x : ℕ). mul x b) (xor_shifted q k n hn)

-- ---- a multiple from its half: one bit more

pub multiple_from_half : (i n : ℕ) {b : ℕ} → i < 2 ^ 127 → n < 2 → b < 2 ^ 128 → bit_xor (double (mul i b)) (mul n b) ≡ mul (2 * i + n) b
multiple_from_half i n {b} h hn hb =
    ap (λ (x : ℕ). bit_xor x (mul n b)) (sym (mul_two_l (mul i b))) ∙ more_bits 127 1 i n h hn (lit≤ tt) (lit< tt) hb
    ∙ ap (λ (x : ℕ). mul (x + n) b) (mul_comm i 2)

-- ---- the product by x^k: a shift, and what is pushed out comes back at the low end

module _ (k : ℕ) (pos : 0 < k) (hk : k < 128) (x : ℕ) (hx : x < 2 ^ 128) where
  abbrev j : ℕ
  j = 128 - k

  out_lt : x / 2 ^ j < 2 ^ k
  out_lt = let parts : 128 ≡ k + j = omega arith in shr_lt k j (subst (λ (n : ℕ). x < 2 ^ n) parts hx)

  stays_lt : x % 2 ^ j < 2 ^ j
  stays_lt = mod-lt x (pow_pos j)

  out : mul (2 ^ k) (x / 2 ^ j * 2 ^ j) ≡ mul 0x87 (x / 2 ^ j)
  out =
      ap (mul (2 ^ k)) (sym (mul_pow j k out_lt (omega arith) (omega arith)))
      ∙ sym (F.mul_assoc (pow-lt hk) (pow-lt {i = j} {j = 128} (omega arith)) (below k out_lt (omega arith)))
      ∙ ap (λ (y : ℕ). mul y (x / 2 ^ j)) (x¹²⁸ k pos hk)

  stays : mul (2 ^ k) (x % 2 ^ j) ≡ x * 2 ^ k % 2 ^ 128
  stays = mul_pow k j stays_lt (omega arith) hk ∙ sym (left_mod 128 k x (omega arith))

  shift_is : bit_xor (x * 2 ^ k % 2 ^ 128) (mul 0x87 (x / 2 ^ j)) ≡ mul (2 ^ k) x
  shift_is =
      ap₂ bit_xor (sym stays) (sym out) ∙ xor_comm (mul (2 ^ k) (x % 2 ^ j)) (mul (2 ^ k) (x / 2 ^ j * 2 ^ j))
      ∙ sym (mul_add (2 ^ k) (x / 2 ^ j * 2 ^ j) (x % 2 ^ j))
      ∙ ap (mul (2 ^ k)) (xor_shifted (x / 2 ^ j) j (x % 2 ^ j) stays_lt ∙ split x j)

-- ---- a step

-- what four bits leave is a word
abbrev low_word : ℕ → ℕ
low_word n = mul 0x87 n % 2 ^ 64

in_a_word : on_bits (mul 0x87) 4 ≡ on_bits low_word 4
unfolding mul horner double times
in_a_word = refl

reduction_lt : (n : ℕ) → n < 16 → mul 0x87 n < 2 ^ 64
reduction_lt n h =
    subst (λ (x : ℕ). x < 2 ^ 64) (sym (agree (mul 0x87) low_word (mul_linear 0x87) (after (low 64) (mul_linear 0x87)) 4 in_a_word n h))
    (mod-lt (mul 0x87 n) (lit< tt))

-- of the words h and l; r is the reduction of the four bits pushed out, mh and ml the multiple
pub step_words : (h l r mh ml : ℕ) → h < 2 ^ 64 → l < 2 ^ 64 → ml < 2 ^ 64 → r ≡ mul 0x87 (h / 2 ^ 60)
    → bit_xor (bit_or (h * 16 % 2 ^ 64) (l / 2 ^ 60)) mh * 2 ^ 64 + bit_xor (bit_xor (l * 16 % 2 ^ 64) r) ml
    ≡ bit_xor (mul 16 (h * 2 ^ 64 + l)) (mh * 2 ^ 64 + ml)
step_words h l r mh ml hh hl hm e =
    let x = h * 2 ^ 64 + l in
    let hr : r < 2 ^ 64 = subst (λ (n : ℕ). n < 2 ^ 64) (sym e) (reduction_lt (h / 2 ^ 60) (shr_lt 4 60 hh)) in
    sym (xor_block 64 (bit_or (h * 16 % 2 ^ 64) (l / 2 ^ 60)) mh (bit_xor (l * 16 % 2 ^ 64) r) ml (xor_lt 64 (l * 16 % 2 ^ 64) r (mod-lt (l * 16) (lit< tt)) hr) hm)
    ∙ ap (λ (y : ℕ). bit_xor y (mh * 2 ^ 64 + ml))
    (left_words 4 h l (lit≤ tt) hl r hr
    ∙ ap (bit_xor (x * 16 % 2 ^ 128)) (e ∙ ap (mul 0x87) (sym (high_bits 60 h l hl)))
    ∙ shift_is 4 (lit< tt) (lit< tt) x (digits_lt {m = 2 ^ 64} {c = 2 ^ 64} hh hl))

-- ---- the words' products together

-- p's words are h and l
pub join_words : (h l qh ql : ℕ) → h < 2 ^ 64 → l < 2 ^ 64 → ql < 2 ^ 64
    → bit_xor (mul 0x87 h) (bit_xor l qh * 2 ^ 64 + ql) ≡ bit_xor (mul (2 ^ 64) (h * 2 ^ 64 + l)) (qh * 2 ^ 64 + ql)
join_words h l qh ql hh hl hq =
    let x = h * 2 ^ 64 + l in
    let q = qh * 2 ^ 64 + ql in
    let stays : l * 2 ^ 64 ≡ x * 2 ^ 64 % 2 ^ 128 = sym (left_mod 128 64 x (lit≤ tt) ∙ ap (λ (y : ℕ). y * 2 ^ 64) (P.low h 64 hl)) in
    ap (bit_xor (mul 0x87 h)) (sym (xor_block 64 l qh 0 ql (lit< tt) hq) ∙ ap (λ (y : ℕ). bit_xor y q) (add-zero (l * 2 ^ 64)))
    ∙ sym (xor_assoc (mul 0x87 h) (l * 2 ^ 64) q)
    ∙ ap (λ (y : ℕ). bit_xor y q)
    (xor_comm (mul 0x87 h) (l * 2 ^ 64) ∙ ap₂ bit_xor stays (ap (mul 0x87) (sym (high h 64 hl)))
    ∙ shift_is 64 (lit< tt) (lit< tt) x (digits_lt {m = 2 ^ 64} {c = 2 ^ 64} hh hl))

-- ---- a word after i steps

-- with the multiples t: s is the product by the bits of w that have been taken, and u has the others
pub record Chain (t : List Block) (w i : ℕ) (s : Block) (u : ℕ) : Type 0 where
  pub word : w < 2 ^ 64
  pub so_far : (b : ℕ) → b < 2 ^ 128 → Multiples 16 b t → value s ≡ mul (w * 2 ^ (4 * i) / 2 ^ 64) b
  pub rest : u ≡ w * 2 ^ (4 * i) % 2 ^ 64

pub chain_start : (t : List Block) (w : ℕ) → w < 2 ^ 64 → Chain t w 0 (record { hi = 0; lo = 0 }) w
unfolding value
chain_start t w h = record {
  word = h;
  so_far = λ b hb m. sym (ap (λ (x : ℕ). mul x b) (ap (λ (x : ℕ). x / 2 ^ 64) (mul-one w) ∙ div-eq_of_lt h) ∙ mul-zero_l b);
  rest = sym (ap (λ (x : ℕ). x % 2 ^ 64) (mul-one w) ∙ mod-eq_of_lt h);
}

-- the next four bits of a number n, of which 64 bits are not taken yet
next_taken : (n : ℕ) → n / 2 ^ 64 * 16 + n % 2 ^ 64 / 2 ^ 60 ≡ n * 16 / 2 ^ 64
next_taken n = omega arith

four_more : (i : ℕ) → 4 * i + 4 ≡ 4 * (i + 1)
four_more i = omega arith

pub chain_next : (t : List Block) (w i : ℕ) (s : Block) (u : ℕ) (m r : Block) → i < 16 → Chain t w i s u
    → ((b : ℕ) → Multiples 16 b t → value m ≡ mul (u / 2 ^ 60) b) → value r ≡ bit_xor (mul 16 (value s)) (value m)
    → Chain t w (i + 1) r (u * 16 % 2 ^ 64)
chain_next t w i s u m r hi c em er = record {
  word = c.word;
  so_far =
      λ b hb all.
      let n : ℕ = w * 2 ^ (4 * i) in
      let n-lt : n < 2 ^ (64 + 64) = lt_of_lt_of_le (shl_lt 64 (4 * i) c.word) (pow_mono {i = 64 + 4 * i} {j = 128} (omega arith)) in
      er
      ∙ ap₂ (λ (x y : ℕ). bit_xor (mul 16 x) y) (c.so_far b hb all) (em b all ∙ ap (λ (x : ℕ). mul (x / 2 ^ 60) b) c.rest)
      ∙ more_bits 64 4 (n / 2 ^ 64) (n % 2 ^ 64 / 2 ^ 60) (shr_lt 64 64 n-lt) (shr_lt 4 60 (mod-lt n (lit< tt))) (lit≤ tt) (lit< tt) hb
      ∙ ap (λ (x : ℕ). mul x b)
      (next_taken n
      ∙ ap (λ (x : ℕ). x / 2 ^ 64) (mul_assoc w (2 ^ (4 * i)) 16 ∙ ap (λ (x : ℕ). w * x) (sym (pow-add 2 (4 * i) 4)) ∙ ap (λ (e : ℕ). w * 2 ^ e) (four_more i)));
  rest = ap (λ (x : ℕ). x * 16 % 2 ^ 64) c.rest ∙ shl_shl w (4 * i) 4 ∙ ap (λ (e : ℕ). w * 2 ^ e % 2 ^ 64) (four_more i);
}

-- after sixteen
pub chain_all : (t : List Block) (w i : ℕ) (s : Block) (u b : ℕ) → i ≡ 16 → b < 2 ^ 128 → Multiples 16 b t → Chain t w i s u → value s ≡ mul w b
chain_all t w i s u b e hb all c =
    c.so_far b hb all ∙ ap (λ (k : ℕ). mul (w * 2 ^ (4 * k) / 2 ^ 64) b) e ∙ ap (λ (x : ℕ). mul x b) (shl-shr w 64)

-- both words
pub two_words : (h l : ℕ) {b : ℕ} → h < 2 ^ 64 → l < 2 ^ 64 → b < 2 ^ 128
    → bit_xor (mul (2 ^ 64) (mul h b)) (mul l b) ≡ mul (h * 2 ^ 64 + l) b
two_words h l hh hl hb = more_bits 64 64 h l hh hl (lit≤ tt) (lit< tt) hb
