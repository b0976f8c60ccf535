-- The suspects of a map, by the ones in its words, and the loop that counts them. Assumes nothing.
use mathlib.Core.Path.{◌≡◌, refl, sym, ◌∙◌, ap, ap₂}
use mathlib.Core.Bool.{Bool, true}
use mathlib.Core.List.{List, [], ◌∷◌}
use Prim.Native.Nat.{ℕ, zero, suc, ◌+◌, ◌-◌, ◌*◌, ◌%◌, ◌^◌, ◌≤◌, ◌<◌, min}
use native.Mathlib.Nat.{mod-one}
use native.Mathlib.Decide.{dec_lt}
use native.Mathlib.Omega.{arith}
use lib.Dec.{eqb}
use lib.Count.{ones, ones_in}
use lib.ListN.{length, get_or, drop, drop_of_length-le}
use lib.Seq.{drop-cons}
use borrow.Author.Tests.{lt-ltb}
use Rattle.bits.specs.Bits.{num, digit, bit}
use Rattle.bits.proofs.Bits.{bit_zeros}
use Rattle.bits.proofs.Digits.{digit_lt}
use Rattle.map.specs.Map.{started, suspects}
use Rattle.map.proofs.Words.{ones_next, bit_front, bit_behind}
use Rattle.map.proofs.Starting.{bit-started}

-- ---- by bits

pub suspects_same : (n : ℕ) (m k : List ℕ) → ((i : ℕ) → i < n → bit i m ≡ bit i k) → suspects n m ≡ suspects n k
unfolding suspects
suspects_same zero m k e = refl
suspects_same (suc n) m k e = ap₂ (λ (x : ℕ) (b : Bool). x + num b) (suspects_same n m k (λ i h. e i (omega arith))) (e n (omega arith))

suspects_all : (n : ℕ) (m : List ℕ) → ((i : ℕ) → i < n → bit i m ≡ true) → suspects n m ≡ n
unfolding suspects
suspects_all zero m e = refl
suspects_all (suc n) m e = ap₂ (λ (x : ℕ) (b : Bool). x + num b) (suspects_all n m (λ i h. e i (omega arith))) (e n (omega arith)) ∙ omega arith

pub suspects-started : (n : ℕ) → suspects n (started n) ≡ n
suspects-started n = suspects_all n (started n) (λ i h. bit-started n i ∙ lt-ltb i n h)

-- ---- by words

num-digit : (d : ℕ) → d < 2 → num (eqb d 1) ≡ d
num-digit zero h = refl
num-digit (suc zero) h = refl
num-digit (suc (suc d)) h = absurd (omega arith)

suspects-nil : (n : ℕ) → suspects n [] ≡ 0
unfolding suspects
suspects-nil zero = refl
suspects-nil (suc n) = ap₂ (λ (x : ℕ) (b : Bool). x + num b) (suspects-nil n) (bit_zeros 0 n)

-- the ones of the first word, below n, and the suspects behind it
suspects-cons : (n w : ℕ) (m : List ℕ) → suspects n (w ∷ m) ≡ ones (w % 2 ^ min 64 n) + suspects (n - 64) m
unfolding suspects ones ones_in
suspects-cons zero w m = ap (λ (x : ℕ). ones x + 0) (sym (mod-one w))
suspects-cons (suc n) w m = go (suspects-cons n w m) (dec_lt n 64)
  where
    go : suspects n (w ∷ m) ≡ ones (w % 2 ^ min 64 n) + suspects (n - 64) m → Dec (n < 64)
        → suspects n (w ∷ m) + num (bit n (w ∷ m)) ≡ ones (w % 2 ^ min 64 (suc n)) + suspects (suc n - 64) m
    go r (yes z) =
        let a : min 64 n ≡ n = omega arith in
        let b : min 64 (suc n) ≡ suc n = omega arith in
        let c : n - 64 ≡ 0 = omega arith in
        let d : suc n - 64 ≡ 0 = omega arith in
        let f : num (bit n (w ∷ m)) ≡ digit n w = ap num (bit_front n w m z) ∙ num-digit (digit n w) (digit_lt n w) in
        let s : suspects n (w ∷ m) ≡ ones (w % 2 ^ n) + 0 = r ∙ ap₂ (λ (p q : ℕ). ones (w % 2 ^ p) + suspects q m) a c in
        let t : ones (w % 2 ^ suc n) ≡ ones (w % 2 ^ n) + digit n w = ones_next n w in
        let u : suspects n (w ∷ m) + num (bit n (w ∷ m)) ≡ ones (w % 2 ^ suc n) + 0 = omega arith in
        u ∙ sym (ap₂ (λ (p q : ℕ). ones (w % 2 ^ p) + suspects q m) b d)
    go r (no z) =
        let a : min 64 (suc n) ≡ min 64 n = omega arith in
        let d : suc n - 64 ≡ suc (n - 64) = omega arith in
        let f : num (bit n (w ∷ m)) ≡ num (bit (n - 64) m) = ap num (bit_behind n w m (omega arith)) in
        let u : suspects n (w ∷ m) + num (bit n (w ∷ m)) ≡ ones (w % 2 ^ min 64 n) + (suspects (n - 64) m + num (bit (n - 64) m)) = omega arith in
        u ∙ sym (ap₂ (λ (p q : ℕ). ones (w % 2 ^ p) + suspects q m) a d)

-- ---- for the code

-- The words below `at` are counted, as `total`; `left` of the n bits are in the others.
pub record Counted (n : ℕ) (m : List ℕ) (total left at : ℕ) : Type 0 where
  pub within : at ≤ length m
  pub few : total ≤ 64 * at
  pub same : total + suspects left (drop at m) ≡ suspects n m

pub counted_none : (n : ℕ) (m : List ℕ) → Counted n m 0 n 0
counted_none n m = record { within = omega arith; few = omega arith; same = omega arith }

-- r ones are among the k lowest bits of word `at`
pub counted_next : {n : ℕ} {m : List ℕ} {total left at : ℕ} → Counted n m total left at → at < length m → (k r : ℕ) → k ≡ min 64 left
    → (r ≡ ones (get_or m at 0 % 2 ^ k)) × (r ≤ 64) → Counted n m (total + r) (left - k) (at + 1)
counted_next {n} {m} {total} {left} {at} v h k r ek er =
    let s : suspects left (drop at m) ≡ ones (get_or m at 0 % 2 ^ min 64 left) + suspects (left - 64) (drop (suc at) m) =
    ap (suspects left) (drop-cons m at 0 h) ∙ suspects-cons left (get_or m at 0) (drop (suc at) m) in
    let a : r ≡ ones (get_or m at 0 % 2 ^ min 64 left) = er.0 ∙ ap (λ (x : ℕ). ones (get_or m at 0 % 2 ^ x)) ek in
    let d : left - k ≡ left - 64 = omega arith in
    let o : at + 1 ≡ suc at = omega arith in
    let b : suspects (left - k) (drop (at + 1) m) ≡ suspects (left - 64) (drop (suc at) m) = ap₂ (λ (x y : ℕ). suspects x (drop y m)) d o in
    record { within = omega arith; few = omega arith; same = omega arith }

pub counted_all : {n : ℕ} {m : List ℕ} {total left at : ℕ} → Counted n m total left at → length m ≤ at → total ≡ suspects n m
counted_all {n} {m} {total} {left} {at} v h =
    let z : suspects left (drop at m) ≡ 0 = ap (suspects left) (drop_of_length-le m h) ∙ suspects-nil left in
    omega (arith, v.same)
