-- Laws of hexadecimal digits: the value of one, the test of a line, and the bytes of pairs of digits. Assumes nothing.
use mathlib.Core.Path.{◌≡◌, refl, sym, ap, ap₂, ◌∙◌}
use mathlib.Core.Bool.{Bool, true, false, ◌&&◌, ◌||◌, cond}
use mathlib.Core.List.{List, [], ◌∷◌, ◌++◌}
use Prim.Native.Nat.{ℕ, zero, suc, ◌+◌, ◌*◌, ◌-◌, ◌/◌, ◌%◌, ◌≤◌, ◌<◌}
use native.Mathlib.Decide.{dec_lt}
use native.Mathlib.Omega.{arith}
use lib.Dec.{leb, eqb}
use lib.ListN.{length, take, drop, get_or, set, length-set}
use Rattle.std.specs.Prelude.{Option, Some, None, if◌then◌else◌, is_some}
use Rattle.std.specs.List.{list_all}
use borrow.Author.Tests.{leb-true, le-leb, lt-leb, eq-eqb}
use Rattle.block.proofs.Lists.{false-true, clash, and_left, and_right, and_both, fill_turn, fill_end}
use Rattle.text.specs.Digits.{between, is_digit, digit_value, all_digits, decode}

-- ---- one digit

outside : (a b c : ℕ) → (a ≤ c → c ≤ b → ⊥) → between a b c ≡ false
outside a b c h = go (leb a c) (leb c b) refl refl
  where
    go : (p q : Bool) → leb a c ≡ p → leb c b ≡ q → (p && q) ≡ false
    go true true e f = absurd (h (leb-true a c e) (leb-true c b f))
    go true false e f = refl
    go false q e f = refl

inside : (a b c : ℕ) → a ≤ c → c ≤ b → between a b c ≡ true
inside a b c h k = and_both (leb a c) (leb c b) (le-leb a c h) (le-leb c b k)

-- a digit and its value
abbrev Digit : ℕ → ℕ → Type 0
Digit c v = (is_digit c ≡ true) × (digit_value c ≡ v)

decimal_digit : (c : ℕ) → 48 ≤ c → c ≤ 57 → Digit c (c - 48)
unfolding is_digit digit_value
decimal_digit c h k = (simp (inside 48 57 c h k), simp (le-leb c 57 k))

upper_digit : (c : ℕ) → 65 ≤ c → c ≤ 70 → Digit c (c - 55)
unfolding is_digit digit_value
upper_digit c h k =
    (simp (outside 48 57 c (λ p q. omega arith), inside 65 70 c h k), simp (lt-leb c 57 (omega arith), le-leb c 70 k))

lower_digit : (c : ℕ) → 97 ≤ c → c ≤ 102 → Digit c (c - 87)
unfolding is_digit digit_value
lower_digit c h k = (
  simp (outside 48 57 c (λ p q. omega arith), outside 65 70 c (λ p q. omega arith), inside 97 102 c h k),
  simp (lt-leb c 57 (omega arith), lt-leb c 70 (omega arith)),
)

-- what the code works out
abbrev value_of : ℕ → Option ℕ
value_of c = if is_digit c then Some (digit_value c) else None

as_digit : (c v w : ℕ) → Digit c v → w ≡ v → Some w ≡ value_of c
as_digit c v w d e = ap Some (e ∙ sym d.1) ∙ ap (λ b. if b then Some (digit_value c) else None) (sym d.0)

pub decimal : (c : ℕ) → 48 ≤ c → c ≤ 57 → Some (c - 48) ≡ value_of c
decimal c h k = as_digit c (c - 48) (c - 48) (decimal_digit c h k) refl

pub upper : (c : ℕ) → 65 ≤ c → c ≤ 70 → Some (c - 65 + 10) ≡ value_of c
upper c h k = as_digit c (c - 55) (c - 65 + 10) (upper_digit c h k) (omega arith)

pub lower : (c : ℕ) → 97 ≤ c → c ≤ 102 → Some (c - 97 + 10) ≡ value_of c
lower c h k = as_digit c (c - 87) (c - 97 + 10) (lower_digit c h k) (omega arith)

no_digit : (c : ℕ) → (48 ≤ c → c ≤ 57 → ⊥) → (65 ≤ c → c ≤ 70 → ⊥) → (97 ≤ c → c ≤ 102 → ⊥) → is_digit c ≡ false
unfolding is_digit
no_digit c f g h = simp (outside 48 57 c f, outside 65 70 c g, outside 97 102 c h)

pub other : (c : ℕ) → (48 ≤ c → c ≤ 57 → ⊥) → (65 ≤ c → c ≤ 70 → ⊥) → (97 ≤ c → c ≤ 102 → ⊥) → None ≡ value_of c
other c f g h = ap (λ b. if b then Some (digit_value c) else None) (sym (no_digit c f g h))

-- what `digit_value` answers
pub ruleset digit_values = (decimal, upper, lower, other)

digit_small : (c : ℕ) → is_digit c ≡ true → digit_value c ≤ 15
unfolding digit_value
digit_small c e = go (dec_lt 102 c) (leb c 57) (leb c 70) refl refl
  where
    go : Dec (102 < c) → (p q : Bool) → leb c 57 ≡ p → leb c 70 ≡ q → cond p (c - 48) (cond q (c - 55) (c - 87)) ≤ 15
    go (yes h) p q f g = clash e (no_digit c (λ u v. omega arith) (λ u v. omega arith) (λ u v. omega arith))
    go (no h) true q f g = let k : c ≤ 57 = leb-true c 57 f in omega arith
    go (no h) false true f g = let k : c ≤ 70 = leb-true c 70 g in omega arith
    go (no h) false false f g = omega arith

bounds : (a b c : ℕ) → between a b c ≡ true → (a ≤ c) × (c ≤ b)
bounds a b c e = (leb-true a c (and_left (leb a c) (leb c b) e), leb-true c b (and_right (leb a c) (leb c b) e))

-- the value of a byte that is a digit, without a branch
pub known : (c : ℕ) → is_digit c ≡ true → c % 16 + 9 * (c / 64) ≡ digit_value c
unfolding is_digit
known c e = go (between 48 57 c) (between 65 70 c) (between 97 102 c) refl refl refl e
  where
    go : (p q r : Bool) → between 48 57 c ≡ p → between 65 70 c ≡ q → between 97 102 c ≡ r → (p || (q || r)) ≡ true
        → c % 16 + 9 * (c / 64) ≡ digit_value c
    go true q r f g h k =
        let w = bounds 48 57 c f in
        let v : c % 16 + 9 * (c / 64) ≡ c - 48 = omega arith in
        v ∙ sym (decimal_digit c w.0 w.1).1
    go false true r f g h k =
        let w = bounds 65 70 c g in
        let v : c % 16 + 9 * (c / 64) ≡ c - 55 = omega arith in
        v ∙ sym (upper_digit c w.0 w.1).1
    go false false true f g h k =
        let w = bounds 97 102 c h in
        let v : c % 16 + 9 * (c / 64) ≡ c - 87 = omega arith in
        v ∙ sym (lower_digit c w.0 w.1).1
    go false false false f g h k = false-true k

pub known_small : (c : ℕ) → is_digit c ≡ true → c % 16 + 9 * (c / 64) < 16
known_small c e = omega (arith, known c e, digit_small c e)

pub ruleset known_values = (known, known_small)

-- what the code's test of the value says
pub some_digit : (c : ℕ) → is_some (value_of c) ≡ is_digit c
some_digit c = elim (is_digit c) as (λ b. is_some (if b then Some (digit_value c) else None) ≡ b) [ true ↦ refl | false ↦ refl ]

-- ---- the test of a line

pub digits_all : (l : List ℕ) → list_all is_digit l ≡ all_digits l
unfolding all_digits
digits_all [] = refl
digits_all (c ∷ cs) = ap (λ (b : Bool). is_digit c && b) (digits_all cs)

pub digit_at : (l : List ℕ) (i : ℕ) → i < length l → all_digits l ≡ true → is_digit (get_or l i 0) ≡ true
unfolding all_digits
digit_at [] i h e = absurd (omega arith)
digit_at (c ∷ cs) zero h e = and_left (is_digit c) (all_digits cs) e
digit_at (c ∷ cs) (suc i) h e = digit_at cs i (omega arith) (and_right (is_digit c) (all_digits cs) e)

-- ---- the bytes of digits

pub length-decode : (l : List ℕ) → length (decode l) ≡ length l / 2
unfolding decode
length-decode [] = refl
length-decode (a ∷ []) = refl
length-decode (a ∷ b ∷ cs) = let ih = length-decode cs in omega arith

decode_at : (l : List ℕ) (i : ℕ) → 2 * i + 1 < length l → get_or (decode l) i 0 ≡ digit_value (get_or l (2 * i) 0) * 16 + digit_value (get_or l (2 * i + 1) 0)
unfolding decode
decode_at [] i h = absurd (omega arith)
decode_at (a ∷ []) i h = absurd (omega arith)
decode_at (a ∷ b ∷ cs) zero h = refl
decode_at (a ∷ b ∷ cs) (suc i) h =
    let p : suc (suc (2 * i)) ≡ 2 * suc i = omega arith in
    let q : suc (suc (2 * i + 1)) ≡ 2 * suc i + 1 = omega arith in
    decode_at cs i (omega arith)
    ∙ ap₂ (λ (x y : ℕ). digit_value (get_or (a ∷ b ∷ cs) x 0) * 16 + digit_value (get_or (a ∷ b ∷ cs) y 0)) p q

-- the loop: in f stand the bytes of the first i pairs, and the rest of d behind
pub record Decoding (line d f : List ℕ) (i : ℕ) : Type 0 where
  pub within : i ≤ length f
  pub long : length f ≡ length d
  pub bytes : f ≡ take i (decode line) ++ drop i d

pub decoding_start : (line d : List ℕ) → Decoding line d d 0
decoding_start line d = record { within = omega arith; long = refl; bytes = refl }

module _ (line d f : List ℕ) (i : ℕ) (long : length line ≡ 2 * length d) (I : Decoding line d f i) where
  pub decoding_turn : (x y : ℕ) → i < length f → x ≡ digit_value (get_or line (2 * i) 0) → y ≡ digit_value (get_or line (2 * i + 1) 0)
      → Decoding line d (set f i (x * 16 + y)) (i + 1)
  decoding_turn x y lt high low =
      record {
        within = simp length-set (omega arith);
        long = simp length-set I.long;
        bytes = ap (λ (l : List ℕ). set l i (x * 16 + y)) I.bytes
            ∙ fill_turn (decode line) d i (x * 16 + y) (omega (arith, length-decode line)) (omega arith)
            (ap₂ (λ (s t : ℕ). s * 16 + t) high low ∙ sym (decode_at line i (omega arith)));
      }

  pub decoding_end : length f ≤ i → f ≡ decode line
  decoding_end h = I.bytes ∙ fill_end (decode line) d i (omega (arith, length-decode line)) (omega arith)

-- the loop but for its turn
pub ruleset decodings = (digit_at, decoding_start, decoding_end)

-- ---- whether a line decodes into bytes

-- where its length is right
pub by_digits : (line d : List ℕ) → length line ≡ 2 * length d → all_digits line ≡ (eqb (length line) (2 * length d) && all_digits line)
by_digits line d h = ap (λ (b : Bool). b && all_digits line) (sym (eq-eqb (length line) (2 * length d) h))
