-- A started map, and the loop that writes it. Assumes nothing.
use mathlib.Core.Path.{◌≡◌, refl, sym, ◌∙◌, ap, ap₂}
use mathlib.Core.List.{List, [], ◌∷◌, ◌++◌, append_assoc, append-nil}
use Prim.Native.Nat.{ℕ, zero, suc, ◌+◌, ◌-◌, ◌*◌, ◌^◌, ◌≤◌, ◌<◌, min}
use native.Mathlib.Nat.{lt_of_lt_of_le}
use native.Mathlib.Decide.{dec_lt}
use native.Mathlib.Omega.{arith}
use lib.Dec.{ltb}
use lib.Pow.{pow_mono, ones_lt}
use lib.ListN.{length, set, take, length-set}
use lib.Seq.{take-suc-set, take_all}
use borrow.Author.Tests.{lt-ltb, le-ltb}
use Rattle.bits.specs.Bits.{Words, bit}
use Rattle.bits.proofs.Bits.{bit_zeros, bits_only}
use Rattle.answers.specs.Rules.{map_words}
use Rattle.map.specs.Map.{fill, started}
use Rattle.map.proofs.Words.{digit_low, bit_front, bit_behind}

-- ---- as many words as n bits need

pub words_room : (n : ℕ) → n ≤ map_words n * 64
unfolding map_words
words_room n = omega arith

pub words_least : (n w : ℕ) → n ≤ w * 64 → map_words n ≤ w
unfolding map_words
words_least n w h = omega arith

-- ---- its bits

ltb_same : (i n j m : ℕ) → (i < n → j < m) → (j < m → i < n) → ltb i n ≡ ltb j m
ltb_same i n j m f g = go (dec_lt i n)
  where
    go : Dec (i < n) → ltb i n ≡ ltb j m
    go (yes h) = lt-ltb i n h ∙ sym (lt-ltb j m (f h))
    go (no h) =
        let k : j < m → ⊥ = λ q. h (g q) in
        le-ltb i n (omega arith) ∙ sym (le-ltb j m (omega arith))

bit-fill : (w n i : ℕ) → n ≤ w * 64 → bit i (fill w n) ≡ ltb i n
bit-fill zero n i h = bit_zeros 0 i ∙ sym (le-ltb i n (omega arith))
bit-fill (suc w) n i h = go (bit-fill w (n - 64) (i - 64) (omega arith)) (dec_lt i 64)
  where
    go : bit (i - 64) (fill w (n - 64)) ≡ ltb (i - 64) (n - 64) → Dec (i < 64) → bit i (fill (suc w) n) ≡ ltb i n
    go r (yes z) =
        bit_front i (2 ^ min 64 n - 1) (fill w (n - 64)) z ∙ digit_low (min 64 n) i
        ∙ ltb_same i (min 64 n) i n (λ l. omega arith) (λ l. omega arith)
    go r (no z) =
        bit_behind i (2 ^ min 64 n - 1) (fill w (n - 64)) (omega arith) ∙ r
        ∙ ltb_same (i - 64) (n - 64) i n (λ l. omega arith) (λ l. omega arith)

pub bit-started : (n i : ℕ) → bit i (started n) ≡ ltb i n
unfolding started
bit-started n i = bit-fill (map_words n) n i (words_room n)

length-fill : (w n : ℕ) → length (fill w n) ≡ w
length-fill zero n = refl
length-fill (suc w) n = ap suc (length-fill w (n - 64))

pub length-started : (n : ℕ) → length (started n) ≡ map_words n
unfolding started
length-started n = length-fill (map_words n) n

words_fill : (w n : ℕ) → Words (fill w n)
words_fill zero n = tt
words_fill (suc w) n = (lt_of_lt_of_le (ones_lt (min 64 n)) (pow_mono {i = min 64 n} {j = 64} (omega arith)), words_fill w (n - 64))

pub words_started : (n : ℕ) → Words (started n)
unfolding started
words_started n = words_fill (map_words n) n

pub started_only : (n : ℕ) (m : List ℕ) → Words m → length m ≡ map_words n → ((i : ℕ) → bit i m ≡ ltb i n) → m ≡ started n
started_only n m h e f = bits_only m (started n) h (words_started n) (e ∙ sym (length-started n)) (λ i. f i ∙ sym (bit-started n i))

-- ---- for the code

-- The words below `at` are written; `left` of the n bits are to be set in the others.
pub record Filled (n : ℕ) (m : List ℕ) (left at : ℕ) : Type 0 where
  pub within : at ≤ length m
  pub long : length m ≡ map_words n
  pub same : take at m ++ fill (length m - at) left ≡ started n

pub filled_none : (n : ℕ) (m : List ℕ) → length m ≡ map_words n → Filled n m n 0
unfolding started
filled_none n m e =
    let z : length m - 0 ≡ map_words n = omega arith in
    record { within = omega arith; long = e; same = ap (λ (w : ℕ). fill w n) z }

-- word `at` becomes x, with its k lowest bits set
pub filled_next : {n : ℕ} {m : List ℕ} {left at : ℕ} → Filled n m left at → at < length m → (k x : ℕ) → k ≡ min 64 left → x ≡ 2 ^ k - 1
    → Filled n (set m at x) (left - k) (at + 1)
filled_next {n} {m} {left} {at} v h k x ek ex =
    let z : length (set m at x) ≡ length m = length-set m at x in
    let w : length m - at ≡ suc (length m - suc at) = omega arith in
    let d : left - k ≡ left - 64 = omega arith in
    let o : at + 1 ≡ suc at = omega arith in
    let y : x ≡ 2 ^ min 64 left - 1 = ex ∙ ap (λ (j : ℕ). 2 ^ j - 1) ek in
    record {
      within = omega arith;
      long = z ∙ v.long;
      same =
          ap₂ {C = List ℕ} (λ (a b : ℕ). take a (set m at x) ++ fill b (left - k)) o (ap₂ (λ (a b : ℕ). a - b) z o)
          ∙ ap (λ (a : ℕ). take (suc at) (set m at x) ++ fill (length m - suc at) a) d
          ∙ ap (λ (a : List ℕ). a ++ fill (length m - suc at) (left - 64)) (take-suc-set m at x h)
          ∙ append_assoc (take at m) (x ∷ []) (fill (length m - suc at) (left - 64))
          ∙ ap (λ (a : ℕ). take at m ++ (a ∷ fill (length m - suc at) (left - 64))) y
          ∙ ap (λ (a : ℕ). take at m ++ fill a left) (sym w)
          ∙ v.same;
    }

pub filled_all : {n : ℕ} {m : List ℕ} {left at : ℕ} → Filled n m left at → length m ≤ at → m ≡ started n
filled_all {n} {m} {left} {at} v h =
    let z : length m - at ≡ 0 = omega arith in
    sym (ap₂ {C = List ℕ} (λ (a b : List ℕ). a ++ b) (take_all at m h) (ap (λ (w : ℕ). fill w left) z) ∙ append-nil m) ∙ v.same
