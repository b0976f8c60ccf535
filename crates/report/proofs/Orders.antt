-- Laws of lists of numbers in an order. Assumes nothing.
use mathlib.Core.Path.{◌≡◌, refl}
use mathlib.Core.Logic.{◌⊎◌, inl, inr, ⊎_elim, ◌↔◌}
use mathlib.Core.List.Memᴰ
use mathlib.Core.List.{List, [], ◌∷◌, ◌++◌, Memᴰ}
use Prim.Native.Nat.{ℕ, zero, suc, ◌<◌, ◌≤◌}
use native.Mathlib.Decide.{dec_lt}
use native.Mathlib.Omega.{arith}
use lib.ListN.{length, get_or}
use Rattle.report.specs.Survey.{Sorted, Lists}

-- ---- entries and members

entry_member : (l : List ℕ) (i : ℕ) → i < length l → Memᴰ (get_or l i 0) l
entry_member [] i h = absurd (omega arith)
entry_member (x ∷ l) zero h = Memᴰ.head refl
entry_member (x ∷ l) (suc i) h = Memᴰ.tail (entry_member l i (omega arith))

-- what holds of every entry holds of every member
member_by_entry : (Q : ℕ → Type 0) (l : List ℕ) → ((j : ℕ) → j < length l → Q (get_or l j 0)) → (z : ℕ) → Memᴰ z l → Q z
member_by_entry Q [] q z m = absurd (Memᴰ.not-nil m)
member_by_entry Q (y ∷ l) q z m =
    ⊎_elim (λ (e : z ≡ y). rw e (q 0 (omega arith)))
    (λ r. member_by_entry Q l (λ j h. q (suc j) (omega arith)) z r) (Memᴰ.cases_cons m)

-- ---- sorted lists

module _ (R : ℕ → ℕ → Type 0) where
  -- the first entry has the relation to every other, and the others are sorted,
  pub sorted_head : (x : ℕ) (l : List ℕ) → Sorted R (x ∷ l) → (z : ℕ) → Memᴰ z l → R x z
  sorted_head x l up = member_by_entry (R x) l (λ j h. up 0 (suc j) (omega arith) (omega arith))

  pub sorted_tail : (x : ℕ) (l : List ℕ) → Sorted R (x ∷ l) → Sorted R l
  sorted_tail x l up i j h k = up (suc i) (suc j) (omega arith) (omega arith)

  -- and that is enough
  sorted_cons : (x : ℕ) (l : List ℕ) → ((z : ℕ) → Memᴰ z l → R x z) → Sorted R l → Sorted R (x ∷ l)
  sorted_cons x l least up i zero h k = absurd (omega arith)
  sorted_cons x l least up zero (suc j) h k = least (get_or l j 0) (entry_member l j (omega arith))
  sorted_cons x l least up (suc i) (suc j) h k = up i j (omega arith) (omega arith)

  pub sorted_append : (a b : List ℕ) → Sorted R a → Sorted R b → ((x y : ℕ) → Memᴰ x a → Memᴰ y b → R x y) → Sorted R (a ++ b)
  sorted_append [] b up vp across = vp
  sorted_append (x ∷ a) b up vp across =
      sorted_cons x (a ++ b) (λ z m. ⊎_elim (sorted_head x a up z) (across x z (Memᴰ.head refl)) (Memᴰ.append_cases a m))
      (sorted_append a b (sorted_tail x a up) vp (λ y z m. across y z (Memᴰ.tail m)))

  -- in another order, if that follows for members
  pub sorted_map : (Q : ℕ → ℕ → Type 0) (l : List ℕ) → ((x y : ℕ) → Memᴰ x l → Memᴰ y l → R x y → Q x y) → Sorted R l → Sorted Q l
  sorted_map Q l to up i j h k = to (get_or l i 0) (get_or l j 0) (entry_member l i (omega arith)) (entry_member l j k) (up i j h k)

-- the same list, by another order and another property that agree with these below n
pub lists_map : {R S : ℕ → ℕ → Type 0} {P Q : ℕ → Type 0} {n : ℕ} {l : List ℕ} → ((x y : ℕ) → x < n → y < n → P x → P y → R x y → S x y)
    → ((i : ℕ) → i < n → P i ↔ Q i) → Lists R P n l → Lists S Q n l
lists_map {R} {S} {l = l} to t a = record {
  exactly = λ i. (
    λ m. let x = (a.exactly i).0 m in (x.0, (t i x.0).0 x.1),
    λ x. (a.exactly i).1 (x.0, (t i x.0).1 x.1),
  );
  sorted = sorted_map R S l (λ x y m k. let e = (a.exactly x).0 m in let f = (a.exactly y).0 k in to x y e.0 f.0 e.1 f.1) a.sorted;
}

-- ---- by rank, then by number

module _ (rank : ℕ → ℕ) where
  abbrev pub Earlier : ℕ → ℕ → Type 0
  Earlier i j = (rank i < rank j) ⊎ ((rank i ≡ rank j) × (i < j))

  pub earlier_asym : (i j : ℕ) → Earlier i j → Earlier j i → ⊥
  earlier_asym i j (inl a) (inl b) = omega arith
  earlier_asym i j (inl a) (inr b) = omega arith
  earlier_asym i j (inr a) (inl b) = omega arith
  earlier_asym i j (inr a) (inr b) = omega arith

  -- the rank is at least a and below b
  abbrev pub Ranked : ℕ → ℕ → ℕ → Type 0
  Ranked a b i = (a ≤ rank i) × (rank i < b)

  -- the numbers of one rank, rising
  pub rank_lists : (r n : ℕ) (l : List ℕ) → Lists ◌<◌ (λ i. rank i ≡ r) n l → Lists Earlier (Ranked r (suc r)) n l
  rank_lists r n l = lists_map (λ x y h k p q lt. inr (omega arith, lt)) (λ i h. (λ e. (omega arith, omega arith), λ x. omega arith))

  -- those of the lower ranks, then those of the higher
  pub ranks_append : (a b c n : ℕ) (l m : List ℕ) → a ≤ b → b ≤ c → Lists Earlier (Ranked a b) n l → Lists Earlier (Ranked b c) n m → Lists Earlier (Ranked a c) n (l ++ m)
  ranks_append a b c n l m h k x y = record {
    exactly = λ i. (
      λ z. ⊎_elim
          (λ p. let e = (x.exactly i).0 p in (e.0, (e.1.0, omega arith)))
          (λ q. let e = (y.exactly i).0 q in (e.0, (omega arith, e.1.1))) (Memᴰ.append_cases l z),
      λ z. into i z.0 z.1 (dec_lt (rank i) b),
    );
    sorted = sorted_append Earlier l m x.sorted y.sorted (λ i j p q. let e = (x.exactly i).0 p in let f = (y.exactly j).0 q in inl (omega arith));
  }
    where
      into : (i : ℕ) → i < n → Ranked a c i → Dec (rank i < b) → Memᴰ i (l ++ m)
      into i lt z (yes d) = Memᴰ.append_left m ((x.exactly i).1 (lt, (z.0, d)))
      into i lt z (no d) = Memᴰ.append_right l ((y.exactly i).1 (lt, (omega arith, z.1)))
