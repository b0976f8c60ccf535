-- Laws of the numbers that pass a test, of their counts and of the health. Assumes nothing.
use mathlib.Core.Path.{◌≡◌, refl, sym, ap, ap₂, ◌∙◌}
use mathlib.Core.Logic.{◌⊎◌, inl, inr, ⊎_elim, ◌↔◌}
use mathlib.Core.Bool.{Bool, true, false, cond}
use mathlib.Core.List.Memᴰ
use mathlib.Core.List.{List, [], ◌∷◌, ◌++◌, Memᴰ}
use Prim.Native.Nat.{ℕ, zero, suc, ◌+◌, ◌*◌, ◌/◌, ◌<◌, ◌≤◌}
use native.Mathlib.Decide.{ℕ_discrete, dec_lt}
use native.Mathlib.Nat.{div-le_of_le-mul, le-div_iff_mul-le, mul-div_cancel_left, mul-le-mul_right, le_of_eq}
use native.Mathlib.Omega.{arith}
use lib.ListN.{length, length-append}
use Rattle.block.proofs.Lists.{false-true, clash}
use Rattle.verdict.specs.Verdict.{Verdict, whole, doubtful, lost, clashing}
use Rattle.history.specs.Answers.{is_whole, is_doubtful, is_clashing, is_lost}
use Rattle.report.specs.Survey.{chosen, tally, health, Sorted, Lists}
use Rattle.report.specs.Inner.{add_if}
use Rattle.report.proofs.Orders.{sorted_append}

-- ---- the numbers that pass a test

-- they rise, and lie below n
record Climbs (n : ℕ) (l : List ℕ) : Type 0 where
  rises : Sorted ◌<◌ l
  below : (i : ℕ) → Memᴰ i l → i < n

chosen_climbs : (p : ℕ → Bool) (n : ℕ) → Climbs n (chosen p n)
unfolding chosen
chosen_climbs p zero = record { rises = λ i j h k. absurd (omega arith); below = λ i m. absurd (Memᴰ.not-nil m) }
chosen_climbs p (suc n) = go (p n) (chosen_climbs p n)
  where
    go : (b : Bool) → Climbs n (chosen p n) → Climbs (suc n) (cond b (chosen p n ++ n ∷ []) (chosen p n))
    go true z = record {
      rises =
          sorted_append ◌<◌ (chosen p n) (n ∷ []) z.rises (λ i j h k. absurd (omega arith))
          (λ x y a b. omega (arith, z.below x a, Memᴰ.eq_of_singleton b));
      below = λ i m. ⊎_elim (λ a. omega (arith, z.below i a)) (λ a. omega (arith, Memᴰ.eq_of_singleton a)) (Memᴰ.append_cases (chosen p n) m);
    }
    go false z = record { rises = z.rises; below = λ i m. omega (arith, z.below i m) }

-- what is chosen is below n and passes,
chosen_passes : (p : ℕ → Bool) (n i : ℕ) → Memᴰ i (chosen p n) → (i < n) × (p i ≡ true)
unfolding chosen
chosen_passes p zero i m = absurd (Memᴰ.not-nil m)
chosen_passes p (suc n) i m = go (p n) refl m (chosen_passes p n i)
  where
    later : (i < n) × (p i ≡ true) → (i < suc n) × (p i ≡ true)
    later x = (omega arith, x.1)

    last : p n ≡ true → i ≡ n → (i < suc n) × (p i ≡ true)
    last d e = (omega arith, ap p e ∙ d)

    go : (b : Bool) → p n ≡ b → Memᴰ i (cond b (chosen p n ++ n ∷ []) (chosen p n)) → (Memᴰ i (chosen p n) → (i < n) × (p i ≡ true))
        → (i < suc n) × (p i ≡ true)
    go true d k r = ⊎_elim (λ a. later (r a)) (λ a. last d (Memᴰ.eq_of_singleton a)) (Memᴰ.append_cases (chosen p n) k)
    go false d k r = later (r k)

-- and all of that is chosen
passes_chosen : (p : ℕ → Bool) (n i : ℕ) → i < n → p i ≡ true → Memᴰ i (chosen p n)
unfolding chosen
passes_chosen p zero i h e = absurd (omega arith)
passes_chosen p (suc n) i h e = go (p n) refl (ℕ_discrete i n) (λ lt. passes_chosen p n i lt e)
  where
    go : (b : Bool) → p n ≡ b → Dec (i ≡ n) → (i < n → Memᴰ i (chosen p n)) → Memᴰ i (cond b (chosen p n ++ n ∷ []) (chosen p n))
    go true d (yes z) r = Memᴰ.append_right (chosen p n) (Memᴰ.head z)
    go true d (no z) r = Memᴰ.append_left (n ∷ []) (r (omega arith))
    go false d (yes z) r = clash e (ap p z ∙ d)
    go false d (no z) r = r (omega arith)

-- the test passes the numbers that have a property
pub chosen_lists : (P : ℕ → Type 0) (p : ℕ → Bool) (n : ℕ) → ((i : ℕ) → i < n → (p i ≡ true) ↔ P i) → Lists ◌<◌ P n (chosen p n)
chosen_lists P p n t = record {
  exactly = λ i. (
    λ m. let x = chosen_passes p n i m in (x.0, (t i x.0).0 x.1),
    λ x. passes_chosen p n i x.0 ((t i x.0).1 x.1),
  );
  sorted = (chosen_climbs p n).rises;
}

-- tests that agree below n choose the same
pub chosen_same : (p q : ℕ → Bool) (n : ℕ) → ((i : ℕ) → i < n → p i ≡ q i) → chosen p n ≡ chosen q n
unfolding chosen
chosen_same p q zero e = refl
chosen_same p q (suc n) e =
    ap₂ (λ (b : Bool) (l : List ℕ). cond b (l ++ n ∷ []) l) (e n (omega arith)) (chosen_same p q n (λ i h. e i (omega arith)))

-- what is below i + 1 is below i, or i
pub at_or_below : (j i : ℕ) → j < suc i → (j < i) ⊎ (j ≡ i)
at_or_below j i h = go (dec_lt j i)
  where
    go : Dec (j < i) → (j < i) ⊎ (j ≡ i)
    go (yes k) = inl k
    go (no k) = inr (omega arith)

pub chosen_le : (p : ℕ → Bool) (i n : ℕ) → i ≤ n → length (chosen p i) ≤ length (chosen p n)
unfolding chosen
chosen_le p i zero h = let e : i ≡ 0 = omega arith in le_of_eq (ap (λ (k : ℕ). length (chosen p k)) e)
chosen_le p i (suc n) h = ⊎_elim (λ k. let r = chosen_le p i n (omega arith) in go (p n) r) (λ e. le_of_eq (ap (λ (k : ℕ). length (chosen p k)) e)) (at_or_below i (suc n) (omega arith))
  where
    go : (b : Bool) → length (chosen p i) ≤ length (chosen p n) → length (chosen p i) ≤ length (cond b (chosen p n ++ n ∷ []) (chosen p n))
    go true r = simp length-append (omega arith)
    go false r = r

-- ---- counts

tally_none : {A : Type 0} (is : A → Bool) (w : ℕ → A) → tally is w 0 ≡ 0
unfolding tally chosen
tally_none is w = refl

length_next : (b : Bool) (l : List ℕ) (n : ℕ) → length (cond b (l ++ n ∷ []) l) ≡ add_if b (length l)
length_next true l n = simp length-append (omega arith)
length_next false l n = refl

pub tally_next : {A : Type 0} (is : A → Bool) (w : ℕ → A) (n : ℕ) → tally is w (suc n) ≡ add_if (is (w n)) (tally is w n)
unfolding tally chosen
tally_next is w n = length_next (is (w n)) (chosen (λ i. is (w i)) n) n

add_le : (b : Bool) {k n : ℕ} → k ≤ n → add_if b k ≤ suc n
add_le true h = omega arith
add_le false h = omega arith

pub tally_le : {A : Type 0} (is : A → Bool) (w : ℕ → A) (n : ℕ) → tally is w n ≤ n
tally_le is w zero = omega (arith, tally_none is w)
tally_le is w (suc n) = rw tally_next (add_le (is (w n)) (tally_le is w n))

-- each verdict is counted once
one_kind : (w : Verdict) (a b c d : ℕ) → add_if (is_whole w) a + add_if (is_doubtful w) b + add_if (is_clashing w) c + add_if (is_lost w) d ≡ suc (a + b + c + d)
unfolding is_whole is_doubtful is_clashing is_lost
one_kind (whole P) a b c d = omega arith
one_kind (doubtful p P) a b c d = omega arith
one_kind lost a b c d = omega arith
one_kind clashing a b c d = omega arith

pub all_counted : (w : ℕ → Verdict) (n : ℕ) → tally is_whole w n + tally is_doubtful w n + tally is_clashing w n + tally is_lost w n ≡ n
all_counted w zero = omega (arith, tally_none is_whole w, tally_none is_doubtful w, tally_none is_clashing w, tally_none is_lost w)
all_counted w (suc n) =
    rw (tally_next is_whole w n, tally_next is_doubtful w n, tally_next is_clashing w n, tally_next is_lost w n)
    (one_kind (w n) (tally is_whole w n) (tally is_doubtful w n) (tally is_clashing w n) (tally is_lost w n) ∙ ap suc (all_counted w n))

-- where every number passes, and only there, the count is n
tally_all : {A : Type 0} (is : A → Bool) (w : ℕ → A) (n : ℕ) → ((i : ℕ) → i < n → is (w i) ≡ true) → tally is w n ≡ n
tally_all is w zero h = tally_none is w
tally_all is w (suc n) h =
    tally_next is w n ∙ ap (λ (b : Bool). add_if b (tally is w n)) (h n (omega arith)) ∙ ap suc (tally_all is w n (λ i lt. h i (omega arith)))

tally_full : {A : Type 0} (is : A → Bool) (w : ℕ → A) (n : ℕ) → n ≤ tally is w n → (i : ℕ) → i < n → is (w i) ≡ true
tally_full is w zero e i h = absurd (omega arith)
tally_full is w (suc n) e i h = go (is (w n)) refl (rw tally_next at e) (tally_full is w n) (ℕ_discrete i n)
  where
    go : (b : Bool) → is (w n) ≡ b → suc n ≤ add_if b (tally is w n) → (n ≤ tally is w n → (j : ℕ) → j < n → is (w j) ≡ true) → Dec (i ≡ n) → is (w i) ≡ true
    go true d k r (yes z) = ap (λ (j : ℕ). is (w j)) z ∙ d
    go true d k r (no z) = r (omega arith) i (omega arith)
    go false d k r z = let m : tally is w n ≤ n = tally_le is w n in absurd (omega arith)

-- two tests that no number passes both
pub apart : {A B : Type 0} (is : A → Bool) (it : B → Bool) (h : ℕ → A) (w : ℕ → B) (n : ℕ)
    → ((i : ℕ) → i < n → is (h i) ≡ true → it (w i) ≡ false) → tally is h n + tally it w n ≤ n
apart is it h w zero e = omega (arith, tally_none is h, tally_none it w)
apart is it h w (suc n) e =
    rw (tally_next is h n, tally_next it w n)
    (go (is (h n)) (it (w n)) (e n (omega arith)) (apart is it h w n (λ i lt. e i (omega arith))))
  where
    go : (a b : Bool) → (a ≡ true → b ≡ false) → tally is h n + tally it w n ≤ n → add_if a (tally is h n) + add_if b (tally it w n) ≤ suc n
    go true true d k = false-true (sym (d refl))
    go true false d k = omega arith
    go false true d k = omega arith
    go false false d k = omega arith

-- ---- health

pub health_most : (w : ℕ → Verdict) (n : ℕ) → health (tally is_whole w n) n ≤ 1000
unfolding health
health_most w n = div-le_of_le-mul n (mul-le-mul_right 1000 (tally_le is_whole w n))

pub health_full : (w : ℕ → Verdict) (n : ℕ) → 1 ≤ n → (health (tally is_whole w n) n ≡ 1000) ↔ ((i : ℕ) → i < n → is_whole (w i) ≡ true)
unfolding health
health_full w n h = (λ e. tally_full is_whole w n (from e), λ a. ap (λ (k : ℕ). k * 1000 / n) (tally_all is_whole w n a) ∙ mul-div_cancel_left 1000 h)
  where
    from : tally is_whole w n * 1000 / n ≡ 1000 → n ≤ tally is_whole w n
    from e =
        let k : 1000 * n ≤ tally is_whole w n * 1000 = (le-div_iff_mul-le h).0 (le_of_eq (sym e)) in
        omega arith
