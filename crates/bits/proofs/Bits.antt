-- Words and their bits. Assumes nothing.
use mathlib.Core.Path.{◌≡◌, refl, sym, ◌∙◌, ap, subst}
use mathlib.Core.Bool.{Bool, true, false}
use mathlib.Core.List.{List, [], ◌∷◌}
use Prim.Native.Nat.{ℕ, zero, suc, ◌+◌, ◌*◌, ◌/◌, ◌%◌, ◌^◌, ◌<◌}
use native.Mathlib.Nat.{mod-lt}
use native.Mathlib.Decide.{dec_lt, ℕ_discrete}
use native.Mathlib.Omega.{arith}
use lib.Dec.{eqb, lit<}
use lib.ListN.{length, get_or, set, replicate, length-set}
use lib.Seq.{get_or-set_same, get_or-set_other, ext_get_or, set_out}
use borrow.Author.Tests.{eqb-true, eq-eqb}
use Rattle.bits.specs.Bits.{digit, put_digit, num, Words, bit, mark, BitsFacts}
use Rattle.bits.proofs.Digits.{digit_lt, digit-put_same, digit-put_other, put_lt, digits_only, digit-zero, digit_shift}

num_lt : (b : Bool) → num b < 2
num_lt true = lit< tt
num_lt false = lit< tt

num-eqb : (b : Bool) → eqb (num b) 1 ≡ b
num-eqb true = refl
num-eqb false = refl

pub bit-mark_same : (i : ℕ) (b : Bool) (m : List ℕ) → i / 64 < length m → bit i (mark i b m) ≡ b
unfolding bit mark
bit-mark_same i b m h =
    ap (λ (w : ℕ). eqb (digit (i % 64) w) 1) (get_or-set_same m (i / 64) (put_digit (i % 64) (num b) (get_or m (i / 64) 0)) 0 h)
    ∙ ap (λ (d : ℕ). eqb d 1) (digit-put_same (i % 64) (num b) (get_or m (i / 64) 0) (num_lt b))
    ∙ num-eqb b

pub bit-mark_other : (j i : ℕ) (b : Bool) (m : List ℕ) → (j ≡ i → ⊥) → bit j (mark i b m) ≡ bit j m
unfolding bit mark
bit-mark_other j i b m n = ap (λ (d : ℕ). eqb d 1) (go (ℕ_discrete (j / 64) (i / 64)) (dec_lt (i / 64) (length m)))
  where
    x : ℕ
    x = put_digit (i % 64) (num b) (get_or m (i / 64) 0)

    go : Dec (j / 64 ≡ i / 64) → Dec (i / 64 < length m) → digit (j % 64) (get_or (set m (i / 64) x) (j / 64) 0) ≡ digit (j % 64) (get_or m (j / 64) 0)
    go (no d) z = ap (digit (j % 64)) (get_or-set_other m (i / 64) (j / 64) x 0 d)
    go (yes d) (yes z) =
        ap (λ (q : ℕ). digit (j % 64) (get_or (set m (i / 64) x) q 0)) d
        ∙ ap (digit (j % 64)) (get_or-set_same m (i / 64) x 0 z)
        ∙ digit-put_other (j % 64) (i % 64) (num b) (get_or m (i / 64) 0) (num_lt b) (λ e. n (omega arith))
        ∙ ap (λ (q : ℕ). digit (j % 64) (get_or m q 0)) (sym d)
    go (yes d) (no z) = ap (λ (l : List ℕ). digit (j % 64) (get_or l (j / 64) 0)) (set_out m (i / 64) x (omega arith))

pub length-mark : (i : ℕ) (b : Bool) (m : List ℕ) → length (mark i b m) ≡ length m
unfolding mark
length-mark i b m = length-set m (i / 64) (put_digit (i % 64) (num b) (get_or m (i / 64) 0))

-- words of zeros
get_or_zeros : (n k : ℕ) → get_or {A = ℕ} (replicate n 0) k 0 ≡ 0
get_or_zeros zero k = refl
get_or_zeros (suc n) zero = refl
get_or_zeros (suc n) (suc k) = get_or_zeros n k

pub bit_zeros : (n i : ℕ) → bit i (replicate n 0) ≡ false
unfolding bit
bit_zeros n i = ap (λ (w : ℕ). eqb (digit (i % 64) w) 1) (get_or_zeros n (i / 64)) ∙ ap (λ (d : ℕ). eqb d 1) (digit-zero (i % 64))

words_get_or : (m : List ℕ) → Words m → (k : ℕ) → get_or m k 0 < 2 ^ 64
words_get_or [] h k = lit< tt
words_get_or (w ∷ ws) h zero = h.0
words_get_or (w ∷ ws) h (suc k) = words_get_or ws h.1 k

words_set : (m : List ℕ) → Words m → (k x : ℕ) → x < 2 ^ 64 → Words (set m k x)
words_set [] h k x l = tt
words_set (w ∷ ws) h zero x l = (l, h.1)
words_set (w ∷ ws) h (suc k) x l = (h.0, words_set ws h.1 k x l)

pub words_mark : (i : ℕ) (b : Bool) (m : List ℕ) → Words m → Words (mark i b m)
unfolding mark
words_mark i b m h = words_set m h (i / 64) _ (put_lt 64 (i % 64) (num b) (get_or m (i / 64) 0) (num_lt b) (mod-lt i (lit< tt)) (words_get_or m h (i / 64)))

eqb-digit : (a b : ℕ) → a < 2 → b < 2 → eqb a 1 ≡ eqb b 1 → a ≡ b
eqb-digit a b h g e = go (ℕ_discrete a 1) (ℕ_discrete b 1)
  where
    go : Dec (a ≡ 1) → Dec (b ≡ 1) → a ≡ b
    go (yes x) (yes y) = x ∙ sym y
    go (yes x) (no y) = absurd (y (eqb-true b 1 (sym e ∙ eq-eqb a 1 x)))
    go (no x) (yes y) = absurd (x (eqb-true a 1 (e ∙ eq-eqb b 1 y)))
    go (no x) (no y) = omega arith

-- a map is its bits
pub bits_only : (m k : List ℕ) → Words m → Words k → length m ≡ length k → ((i : ℕ) → bit i m ≡ bit i k) → m ≡ k
unfolding bit
bits_only m k h g e f = ext_get_or 0 m k e (λ q l. digits_only 64 (get_or m q 0) (get_or k q 0) (words_get_or m h q) (words_get_or k g q) (same q))
  where
    same : (q j : ℕ) → j < 64 → digit j (get_or m q 0) ≡ digit j (get_or k q 0)
    same q j l =
        let d : (q * 64 + j) / 64 ≡ q = omega arith in
        let r : (q * 64 + j) % 64 ≡ j = omega arith in
        let z : eqb (digit ((q * 64 + j) % 64) (get_or m ((q * 64 + j) / 64) 0)) 1 ≡ eqb (digit ((q * 64 + j) % 64) (get_or k ((q * 64 + j) / 64) 0)) 1 = f (q * 64 + j) in
        eqb-digit (digit j (get_or m q 0)) (digit j (get_or k q 0)) (digit_lt j (get_or m q 0)) (digit_lt j (get_or k q 0))
        (subst (λ (a : ℕ). eqb (digit a (get_or m q 0)) 1 ≡ eqb (digit a (get_or k q 0)) 1) r
        (subst (λ (a : ℕ). eqb (digit ((q * 64 + j) % 64) (get_or m a 0)) 1 ≡ eqb (digit ((q * 64 + j) % 64) (get_or k a 0)) 1) d z))

-- ---- all that is stated of them

by_division : (i : ℕ) (m : List ℕ) → bit i m ≡ eqb (get_or m (i / 64) 0 / 2 ^ (i % 64) % 2) 1
unfolding bit
by_division i m = ap (λ (d : ℕ). eqb d 1) (digit_shift (i % 64) (get_or m (i / 64) 0))

pub bits_facts : BitsFacts
bits_facts = record {
  by_division = by_division;
  of_zeros = bit_zeros;
  marked = bit-mark_same;
  others_stay = bit-mark_other;
  length_stays = length-mark;
  words_stay = words_mark;
  by_bits = bits_only;
}
