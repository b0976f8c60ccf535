-- Laws of lists of bytes: their tests, ⊕, and the loops that compare, copy and add them. Assumes nothing.
use Rattle.std.proofs.Common.{◌≡◌, ℕ, zero, suc, pred, ◌+◌, ◌<◌, ◌≤◌, Bool, true, false, ◌&&◌, ◌==◌, nat_eq, eqb, List, [], ◌∷◌, ◌++◌, length, get_or, take, drop, set, replicate, sym, refl, ap, ◌∙◌, subst, ap₂, append-nil, suc-le-suc, zero-le, add-one, arith, lit<, drop_of_length-le, length-take-le, take_all, drop-cons, take-suc, eq-eqb, eqb-true, ext_get_or}
use Rattle.std.specs.Cmp.Lexicographic.{pointwise}
use lib.ListN.{length-replicate}
use lib.Seq.{set_at, append_snoc}
use lib.Bits.{bit_xor, xor_lt, xor_comm}
use Rattle.block.specs.Bytes.{Bytes, Plain, xor_bytes, same}
use Rattle.block.proofs.Bits.{xor_cancel}

-- ---- true and false

abbrev True : Bool → Type 0
True true = Unit {0}
True false = ⊥

pub false-true : {A : Type 0} → false ≡ true → A
false-true e = absurd (subst True (sym e) tt)

pub clash : {A : Type 0} {b : Bool} → b ≡ true → b ≡ false → A
clash p q = false-true (sym q ∙ p)

pub and_left : (a b : Bool) → (a && b) ≡ true → a ≡ true
and_left true b e = refl
and_left false b e = e

pub and_right : (a b : Bool) → (a && b) ≡ true → b ≡ true
and_right true b e = e
and_right false b e = false-true e

pub and_both : (a b : Bool) → a ≡ true → b ≡ true → (a && b) ≡ true
and_both true b p q = q
and_both false b p q = p

-- ---- equal lists

pub same_eq : (xs ys : List ℕ) → same xs ys ≡ true → xs ≡ ys
unfolding same
same_eq [] [] e = refl
same_eq [] (y ∷ ys) e = false-true e
same_eq (x ∷ xs) [] e = false-true e
same_eq (x ∷ xs) (y ∷ ys) e =
    ap₂ {C = List ℕ} (λ z zs. z ∷ zs) (eqb-true x y (and_left (eqb x y) (same xs ys) e)) (same_eq xs ys (and_right (eqb x y) (same xs ys) e))

same_refl : (xs : List ℕ) → same xs xs ≡ true
unfolding same
same_refl [] = refl
same_refl (x ∷ xs) = and_both (eqb x x) (same xs xs) (eq-eqb x x refl) (same_refl xs)

pub eq_same : {xs ys : List ℕ} → xs ≡ ys → same xs ys ≡ true
eq_same {xs} {ys} e = rw (← e) (same_refl xs)

pub ne_same : (xs ys : List ℕ) → same xs ys ≡ false → xs ≡ ys → ⊥
ne_same xs ys f e = clash (eq_same e) f

-- a list that is not equal fails the test
pub same_ne : (xs ys : List ℕ) → (xs ≡ ys → ⊥) → same xs ys ≡ false
same_ne xs ys ne = go (same xs ys) refl
  where
    go : (t : Bool) → same xs ys ≡ t → same xs ys ≡ false
    go true e = absurd (ne (same_eq xs ys e))
    go false e = e

-- `==` of slices
pub same_pointwise : (xs ys : List ℕ) → pointwise nat_eq xs ys ≡ same xs ys
unfolding same
same_pointwise [] [] = refl
same_pointwise [] (y ∷ ys) = refl
same_pointwise (x ∷ xs) [] = refl
same_pointwise (x ∷ xs) (y ∷ ys) = ap (λ (t : Bool). (x == y) && t) (same_pointwise xs ys)

-- ---- the loop that fills a list from the front

-- the list o holds the first i elements of s, and what d holds behind them
pub fill_turn : (s d : List ℕ) (i x : ℕ) → i < length s → i < length d → x ≡ get_or s i 0
    → set (take i s ++ drop i d) i x ≡ take (i + 1) s ++ drop (i + 1) d
fill_turn s d i x hs hd e =
    ap (λ (r : List ℕ). set (take i s ++ r) i x) (drop-cons d i 0 hd)
    ∙ set_at (take i s) (get_or d i 0) (drop (suc i) d) x i (length-take-le i s (omega arith))
    ∙ ap (λ (y : ℕ). take i s ++ (y ∷ drop (suc i) d)) e
    ∙ sym (append_snoc (take i s) (get_or s i 0) (drop (suc i) d))
    ∙ ap (λ (r : List ℕ). r ++ drop (suc i) d) (sym (take-suc s i 0 hs))
    ∙ ap (λ (n : ℕ). take n s ++ drop n d) (sym (add-one i))

pub fill_end : (s d : List ℕ) (i : ℕ) → length s ≤ i → length d ≤ i → take i s ++ drop i d ≡ s
fill_end s d i hs hd = ap₂ ◌++◌ (take_all i s hs) (drop_of_length-le d hd) ∙ append-nil s

-- ---- ⊕ of lists

pub length_xor : (x y : List ℕ) → length x ≡ length y → length (xor_bytes x y) ≡ length x
length_xor [] y e = refl
length_xor (x ∷ xs) [] e = sym e
length_xor (x ∷ xs) (y ∷ ys) e = ap suc (length_xor xs ys (ap pred e))

pub get_or_xor : (x y : List ℕ) (i : ℕ) → length x ≡ length y → get_or (xor_bytes x y) i 0 ≡ bit_xor (get_or x i 0) (get_or y i 0)
get_or_xor [] [] i e = refl
get_or_xor [] (y ∷ ys) i e = absurd (omega arith)
get_or_xor (x ∷ xs) [] i e = absurd (omega arith)
get_or_xor (x ∷ xs) (y ∷ ys) zero e = refl
get_or_xor (x ∷ xs) (y ∷ ys) (suc i) e = get_or_xor xs ys i (ap pred e)

-- a list that has been filled with it
pub xor_filled : (x y o : List ℕ) → length x ≡ length y → length o ≡ length x
    → ((k : ℕ) → k < length x → get_or o k 0 ≡ bit_xor (get_or x k 0) (get_or y k 0)) → o ≡ xor_bytes x y
xor_filled x y o e f g =
    ext_get_or 0 o (xor_bytes x y) (f ∙ sym (length_xor x y e)) (λ k h. g k (omega arith) ∙ sym (get_or_xor x y k e))

pub xor_bytes_comm : (x y : List ℕ) → xor_bytes x y ≡ xor_bytes y x
xor_bytes_comm [] [] = refl
xor_bytes_comm [] (y ∷ ys) = refl
xor_bytes_comm (x ∷ xs) [] = refl
xor_bytes_comm (x ∷ xs) (y ∷ ys) = ap₂ {C = List ℕ} (λ z zs. z ∷ zs) (xor_comm x y) (xor_bytes_comm xs ys)

pub xor_append : (x y u v : List ℕ) → length x ≡ length u → xor_bytes (x ++ y) (u ++ v) ≡ xor_bytes x u ++ xor_bytes y v
xor_append [] y [] v e = refl
xor_append [] y (b ∷ u) v e = absurd (omega arith)
xor_append (a ∷ x) y [] v e = absurd (omega arith)
xor_append (a ∷ x) y (b ∷ u) v e = ap (λ (l : List ℕ). bit_xor a b ∷ l) (xor_append x y u v (ap pred e))

-- x ⊕ (x ⊕ y) is y
pub xor_bytes_cancel : (x y : List ℕ) → length x ≡ length y → xor_bytes x (xor_bytes x y) ≡ y
xor_bytes_cancel [] [] e = refl
xor_bytes_cancel [] (y ∷ ys) e = absurd (omega arith)
xor_bytes_cancel (x ∷ xs) [] e = absurd (omega arith)
xor_bytes_cancel (x ∷ xs) (y ∷ ys) e = ap₂ {C = List ℕ} (λ z zs. z ∷ zs) (xor_cancel x y) (xor_bytes_cancel xs ys (ap pred e))

-- ---- lists of bytes

-- from what is known of each element
pub bytes_all : (l : List ℕ) → ((i : ℕ) → i < length l → get_or l i 0 < 256) → Bytes l
bytes_all [] f = tt
bytes_all (x ∷ xs) f = (f 0 (suc-le-suc zero-le), bytes_all xs (λ i h. f (suc i) (suc-le-suc h)))

bytes_zeros : (n : ℕ) → Bytes (replicate n 0)
bytes_zeros zero = tt
bytes_zeros (suc n) = (lit< tt, bytes_zeros n)

-- the front of a list of zeros
pub take_zeros : (s n : ℕ) → s ≤ n → take {A = ℕ} s (replicate n 0) ≡ replicate s 0
take_zeros zero n h = refl
take_zeros (suc s) zero h = absurd (omega arith)
take_zeros (suc s) (suc n) h = ap (λ (l : List ℕ). 0 ∷ l) (take_zeros s n (omega arith))

pub plain_zeros : (s : ℕ) → Plain s (replicate s 0)
plain_zeros s = record { long = length-replicate s 0; bytes = bytes_zeros s }

pub bytes_xor : (x y : List ℕ) → Bytes x → Bytes y → Bytes (xor_bytes x y)
bytes_xor [] y h g = tt
bytes_xor (x ∷ xs) [] h g = tt
bytes_xor (x ∷ xs) (y ∷ ys) h g = (xor_lt 8 x y h.0 g.0, bytes_xor xs ys h.1 g.1)

pub plain_xor : (s : ℕ) (x y : List ℕ) → Plain s x → Plain s y → Plain s (xor_bytes x y)
plain_xor s x y h g = record { long = length_xor x y (h.long ∙ sym g.long) ∙ h.long; bytes = bytes_xor x y h.bytes g.bytes }

pub bytes_take : (k : ℕ) (l : List ℕ) → Bytes l → Bytes (take k l)
bytes_take zero l h = tt
bytes_take (suc k) [] h = tt
bytes_take (suc k) (x ∷ xs) h = (h.0, bytes_take k xs h.1)

pub bytes_drop : (k : ℕ) (l : List ℕ) → Bytes l → Bytes (drop k l)
bytes_drop zero l h = h
bytes_drop (suc k) [] h = tt
bytes_drop (suc k) (x ∷ xs) h = bytes_drop k xs h.1

pub bytes_append : (k l : List ℕ) → Bytes k → Bytes l → Bytes (k ++ l)
bytes_append [] l h g = g
bytes_append (x ∷ xs) l h g = (h.0, bytes_append xs l h.1 g)
