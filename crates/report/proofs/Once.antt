-- There is only one list of the numbers that have a property, in an order that never holds both ways. Assumes nothing.
use mathlib.Core.Path.{◌≡◌, refl, sym, ap₂, subst, ◌∙◌}
use mathlib.Core.Logic.{⊎_elim, ◌↔◌}
use mathlib.Core.List.Memᴰ
use mathlib.Core.List.{List, [], ◌∷◌, Memᴰ}
use Prim.Native.Nat.{ℕ, ◌<◌}
use native.Mathlib.Omega.{arith}
use Rattle.report.specs.Survey.{Sorted, Lists}
use Rattle.report.proofs.Orders.{sorted_head, sorted_tail, sorted_map}

module _ (R : ℕ → ℕ → Type 0) (n : ℕ) (asym : (x y : ℕ) → x < n → y < n → R x y → R y x → ⊥) where
  -- so no number has the relation to itself
  unlike : (x y : ℕ) → x < n → R x y → x ≡ y → ⊥
  unlike x y lt r e = let z : R x x = subst (R x) (sym e) r in asym x x lt lt z z

  abbrev Below : List ℕ → Type 0
  Below l = (i : ℕ) → Memᴰ i l → i < n

  abbrev Same : List ℕ → List ℕ → Type 0
  Same l m = (i : ℕ) → Memᴰ i l ↔ Memᴰ i m

  same_head : (x y : ℕ) (l m : List ℕ) → Below (x ∷ l) → Sorted R (x ∷ l) → Sorted R (y ∷ m) → Same (x ∷ l) (y ∷ m) → x ≡ y
  same_head x y l m lt up vp e =
      ⊎_elim (λ (p : x ≡ y). p)
      (λ q. ⊎_elim (λ (p : y ≡ x). sym p)
      (λ r. absurd (asym x y (lt x (Memᴰ.head refl)) (lt y (Memᴰ.tail r)) (sorted_head R x l up y r) (sorted_head R y m vp x q)))
      (Memᴰ.cases_cons ((e y).1 (Memᴰ.head refl))))
      (Memᴰ.cases_cons ((e x).0 (Memᴰ.head refl)))

  tail_in : (x y z : ℕ) (l m : List ℕ) → x < n → Sorted R (x ∷ l) → x ≡ y → (Memᴰ z (x ∷ l) → Memᴰ z (y ∷ m)) → Memᴰ z l → Memᴰ z m
  tail_in x y z l m lt up h into r =
      ⊎_elim (λ (p : z ≡ y). absurd (unlike x z lt (sorted_head R x l up z r) (h ∙ sym p))) (λ q. q) (Memᴰ.cases_cons (into (Memᴰ.tail r)))

  same_list : (l m : List ℕ) → Below l → Sorted R l → Sorted R m → Same l m → l ≡ m
  same_list [] [] lt up vp e = refl
  same_list [] (y ∷ m) lt up vp e = absurd (Memᴰ.not-nil ((e y).1 (Memᴰ.head refl)))
  same_list (x ∷ l) [] lt up vp e = absurd (Memᴰ.not-nil ((e x).0 (Memᴰ.head refl)))
  same_list (x ∷ l) (y ∷ m) lt up vp e =
      let h : x ≡ y = same_head x y l m lt up vp e in
      let kx : x < n = lt x (Memᴰ.head refl) in
      let ky : y < n = lt y ((e y).1 (Memᴰ.head refl)) in
      ap₂ {C = List ℕ} (λ z zs. z ∷ zs) h
      (same_list l m (λ i r. lt i (Memᴰ.tail r)) (sorted_tail R x l up) (sorted_tail R y m vp)
      (λ i. (tail_in x y i l m kx up h (e i).0, tail_in y x i m l ky vp (sym h) (e i).1)))

  module _ (P : ℕ → Type 0) where
    pub one_list : (l m : List ℕ) → Lists R P n l → Lists R P n m → l ≡ m
    one_list l m a b =
        same_list l m (λ i r. ((a.exactly i).0 r).0) a.sorted b.sorted
        (λ i. (λ r. (b.exactly i).1 ((a.exactly i).0 r), λ r. (a.exactly i).1 ((b.exactly i).0 r)))

    -- no two of its entries are equal
    pub entries_apart : (l : List ℕ) → Lists R P n l → Sorted (λ i j. i ≡ j → ⊥) l
    entries_apart l a = sorted_map R (λ i j. i ≡ j → ⊥) l (λ x y m k. unlike x y ((a.exactly x).0 m).0) a.sorted

pub lists_once : (P : ℕ → Type 0) (n : ℕ) (l m : List ℕ) → Lists ◌<◌ P n l → Lists ◌<◌ P n m → l ≡ m
lists_once P n = one_list ◌<◌ n (λ x y h k r s. omega arith) P
