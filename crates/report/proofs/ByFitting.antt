-- The survey's counts and list by fitting: what judging tells of each sector is what the verdict means. Assumes nothing.
use mathlib.Core.Path.{◌≡◌, refl, sym, ap, subst, ◌∙◌}
use mathlib.Core.Logic.{inl, inr, ⊎_elim, ◌↔◌}
use mathlib.Core.Bool.{Bool, true}
use mathlib.Core.List.{List}
use mathlib.Core.Option.{Option, none, some}
use Prim.Native.Nat.{ℕ, suc, ◌<◌, ◌≤◌}
use native.Mathlib.Decide.{dec_lt}
use native.Mathlib.Omega.{arith}
use lib.Dec.{eqb}
use lib.ListN.{length}
use borrow.Author.Tests.{eq-eqb, eqb-true}
use Rattle.block.proofs.Lists.{false-true}
use Rattle.mode.specs.Scheme.{Place, is_key, is_size, Scheme, Sector}
use Rattle.mode.specs.Sealing.{Triple}
use Rattle.answers.specs.Rules.{settle_by, is_shape, Volume}
use Rattle.verdict.specs.Verdict.{Verdict, whole, doubtful, lost, clashing, Means, judge, JudgeExact}
use Rattle.verdict.proofs.JudgeExact.{judge_exact}
use Rattle.history.specs.Answers.{is_whole, is_doubtful, is_clashing, is_lost}
use Rattle.history.specs.HistoryFrom.{AnyBytes}
use Rattle.history.specs.Volume.{sector_of, mirror}
use Rattle.history.proofs.Demand3.{mirror_sound}
use Rattle.history.proofs.Images.{sector_images}
use Rattle.answers.proofs.Passing.{Common, survey_passed}
use Rattle.answers.proofs.Shapes.{shape_facts}
use Rattle.history.proofs.Refusals.{shape_images}
use Rattle.history.specs.History.{own}
use Rattle.report.specs.declared.Counts.{Counts}
use Rattle.report.specs.Survey.{numbers, tally, listed, health, counts_of, written, Report, refused, counted, verdict_at, surveyed, survey_refusal, survey_outcome, Fitting, WholeAt, DoubtfulAt, ClashingAt, LostAt, rank, Before, Lists, Many, ByFitting}
use Rattle.report.proofs.Orders.{lists_map, Earlier, earlier_asym, Ranked, rank_lists, ranks_append}
use Rattle.report.proofs.Once.{one_list, entries_apart}
use Rattle.report.proofs.Tallies.{chosen_lists, all_counted, health_most, health_full}

-- ---- one sector

module _ (s : ℕ) (S : Scheme) (exact : JudgeExact s S) (T : ℕ) (t : Triple) (σ : Sector s t) where
  -- a test of the verdict passes exactly where M holds, if M is what the verdicts that pass mean
  tie : (is : Verdict → Bool) (M : Type 0) → ((w : Verdict) → is w ≡ true → Means s S T t w → M)
      → (M → (w : Verdict) × Means s S T t w × (is w ≡ true)) → (is (judge S T t) ≡ true) ↔ M
  tie is M to from = (
    λ e. to (judge S T t) e ((exact T t σ (judge S T t)).0 refl),
    λ m. let (w, means, e) = from m in ap is ((exact T t σ w).1 means) ∙ e,
  )

  tie_whole : (is_whole (judge S T t) ≡ true) ↔ ((P : List ℕ) × Means s S T t (whole P))
  unfolding is_whole
  tie_whole = tie is_whole _ to (λ x. (whole x.0, x.1, refl))
    where
      to : (w : Verdict) → is_whole w ≡ true → Means s S T t w → (P : List ℕ) × Means s S T t (whole P)
      to (whole P) e m = (P, m)
      to (doubtful d P) e m = false-true e
      to lost e m = false-true e
      to clashing e m = false-true e

  tie_doubtful : (is_doubtful (judge S T t) ≡ true) ↔ ((d : Place) × (P : List ℕ) × Means s S T t (doubtful d P))
  unfolding is_doubtful
  tie_doubtful = tie is_doubtful _ to (λ x. (doubtful x.0 x.1, x.2, refl))
    where
      to : (w : Verdict) → is_doubtful w ≡ true → Means s S T t w → (d : Place) × (P : List ℕ) × Means s S T t (doubtful d P)
      to (whole P) e m = false-true e
      to (doubtful d P) e m = (d, P, m)
      to lost e m = false-true e
      to clashing e m = false-true e

  tie_clashing : (is_clashing (judge S T t) ≡ true) ↔ Means s S T t clashing
  unfolding is_clashing
  tie_clashing = tie is_clashing _ to (λ x. (clashing, x, refl))
    where
      to : (w : Verdict) → is_clashing w ≡ true → Means s S T t w → Means s S T t clashing
      to (whole P) e m = false-true e
      to (doubtful d P) e m = false-true e
      to lost e m = false-true e
      to clashing e m = m

  tie_lost : (is_lost (judge S T t) ≡ true) ↔ Means s S T t lost
  unfolding is_lost
  tie_lost = tie is_lost _ to (λ x. (lost, x, refl))
    where
      to : (w : Verdict) → is_lost w ≡ true → Means s S T t w → Means s S T t lost
      to (whole P) e m = false-true e
      to (doubtful d P) e m = false-true e
      to lost e m = m
      to clashing e m = false-true e

-- the tests of a verdict, by its rank
by_rank : (w : Verdict) → (is_lost w ≡ eqb (rank w) 0) × (is_clashing w ≡ eqb (rank w) 1) × (is_doubtful w ≡ eqb (rank w) 2) × (is_whole w ≡ eqb (rank w) 3) × (rank w ≤ 3)
unfolding is_whole is_doubtful is_clashing is_lost
by_rank (whole P) = (refl, refl, refl, refl, omega arith)
by_rank (doubtful d P) = (refl, refl, refl, refl, omega arith)
by_rank lost = (refl, refl, refl, refl, omega arith)
by_rank clashing = (refl, refl, refl, refl, omega arith)

tie_rank : {b : Bool} {x r : ℕ} → b ≡ eqb x r → (b ≡ true) ↔ (x ≡ r)
tie_rank {b} {x} {r} e = (λ d. eqb-true x r (sym e ∙ d), λ d. e ∙ eq-eqb x r d)

-- ---- a survey that is not refused

abbrev IsCounted : Report → Type 0
IsCounted (refused m) = ⊥
IsCounted (counted c) = Unit {0}

-- what holds of the counts and the list of a survey that passes its checks holds of those that a caller gets
pub of_outcome : (v : Triple) (vol : Volume) (list : List ℕ) (Q : Report × List ℕ → Type 0)
    → (Common v vol → Q (surveyed (verdict_at (own mirror vol) vol.size v) vol.count list))
    → (c : Counts) (after : List ℕ) → survey_outcome v vol list ≡ (counted c, after) → Q (counted c, after)
unfolding survey_outcome
of_outcome v vol list Q q c after e = go (survey_refusal v vol (length list)) refl e
  where
    go : (o : Option ℕ) → survey_refusal v vol (length list) ≡ o
        → settle_by refused o (surveyed (verdict_at (own mirror vol) vol.size v) vol.count list) list ≡ (counted c, after) → Q (counted c, after)
    go none d z = subst Q z (q (survey_passed v vol (length list) d).0)
    go (some m) d z = absurd (subst (λ (x : Report × List ℕ). IsCounted x.0) (sym z) tt)

-- by fitting, so for every key of 32 bytes, whether or not the calls accept it
module _ (v : Triple) (bytes : AnyBytes v) (vol : Volume) (keyed : is_key vol.key ≡ true) (sized : is_size vol.size ≡ true) (shaped : is_shape vol.size vol.count v ≡ true) where
  abbrev s : ℕ
  s = vol.size

  abbrev n : ℕ
  n = vol.count

  abbrev S : Scheme
  S = own mirror vol

  w : ℕ → Verdict
  w = verdict_at S s v

  exact : JudgeExact s S
  exact = judge_exact s S ((mirror_sound vol.number).lawful vol.key s keyed sized)

  sector_at : (i : ℕ) → i < n → Sector s (sector_of s i v)
  sector_at i lt = sector_images s n i lt v (shape_images s n v shaped bytes)

  whole_at : (i : ℕ) → i < n → (is_whole (w i) ≡ true) ↔ WholeAt vol v i
  unfolding w
  whole_at i lt = tie_whole s S exact i (sector_of s i v) (sector_at i lt)

  pub lost_at : (i : ℕ) → i < n → (is_lost (verdict_at S s v i) ≡ true) ↔ LostAt vol v i
  lost_at i lt = tie_lost s S exact i (sector_of s i v) (sector_at i lt)

  many : (P : ℕ → Type 0) (is : Verdict → Bool) → ((i : ℕ) → i < n → (is (w i) ≡ true) ↔ P i) → Many P n (tally is w n)
  unfolding tally
  many P is t = (numbers is w n, chosen_lists P (λ i. is (w i)) n t, refl)

  -- ---- repair order

  abbrev ranks : ℕ → ℕ
  ranks i = rank (w i)

  -- a sector has one verdict by fitting, the one that is worked out, so `Before` goes by the rank of that
  fits-rank : (i : ℕ) → i < n → (a : Verdict) → Fitting vol v a i → ranks i ≡ rank a
  unfolding w
  fits-rank i lt a m = ap rank ((exact i (sector_of s i v) (sector_at i lt) a).1 m)

  before_earlier : (i j : ℕ) → i < n → j < n → Before vol v i j → Earlier ranks i j
  before_earlier i j h l b =
      let x = fits-rank i h b.first b.first_fits in
      let y = fits-rank j l b.second b.second_fits in
      ⊎_elim (λ g. inl (omega arith)) (λ g. inr (omega arith, g.1)) b.graver

  earlier_before : (i j : ℕ) → i < n → j < n → Earlier ranks i j → Before vol v i j
  unfolding w
  earlier_before i j h l e = record {
    first = w i;
    second = w j;
    first_fits = (exact i (sector_of s i v) (sector_at i h) (w i)).0 refl;
    second_fits = (exact j (sector_of s j v) (sector_at j l) (w j)).0 refl;
    graver = e;
  }

  before_asym : (i j : ℕ) → i < n → j < n → Before vol v i j → Before vol v j i → ⊥
  before_asym i j h l a b = earlier_asym ranks i j (before_earlier i j h l a) (before_earlier j i l h b)

  -- the sectors of one kind
  kind : (is : Verdict → Bool) (r : ℕ) → ((x : Verdict) → is x ≡ eqb (rank x) r) → Lists (Earlier ranks) (Ranked ranks r (suc r)) n (numbers is w n)
  kind is r e = rank_lists ranks r n (numbers is w n) (chosen_lists (λ i. ranks i ≡ r) (λ i. is (w i)) n (λ i lt. tie_rank (e (w i))))

  -- those that are not whole have the ranks below 3
  not_whole_rank : (i : ℕ) → i < n → Ranked ranks 0 3 i ↔ (WholeAt vol v i → ⊥)
  not_whole_rank i lt = (λ x a. omega (arith, three.0 ((whole_at i lt).1 a)), λ a. (omega arith, go a (dec_lt (rank (w i)) 3)))
    where
      three : (is_whole (w i) ≡ true) ↔ (rank (w i) ≡ 3)
      three = tie_rank (by_rank (w i)).3

      go : (WholeAt vol v i → ⊥) → Dec (rank (w i) < 3) → rank (w i) < 3
      go a (yes d) = d
      go a (no d) = absurd (a ((whole_at i lt).0 (three.1 (omega (arith, (by_rank (w i)).4)))))

  -- the lost, then the clashing, then the doubtful ones
  listed_lists : Lists (Before vol v) (λ i. WholeAt vol v i → ⊥) n (listed w n)
  unfolding listed
  listed_lists =
      lists_map (λ i j h l p q. earlier_before i j h l) not_whole_rank
      (ranks_append ranks 0 2 3 n _ _ (omega arith) (omega arith)
      (ranks_append ranks 0 1 2 n _ _ (omega arith) (omega arith) (kind is_lost 0 (λ x. (by_rank x).0)) (kind is_clashing 1 (λ x. (by_rank x).1)))
      (kind is_doubtful 2 (λ x. (by_rank x).2)))

  accepted_fitting : (list : List ℕ) → ByFitting vol v list (counts_of (verdict_at S s v) n (health (tally is_whole (verdict_at S s v) n) n)) (written (verdict_at S s v) n list)
  unfolding w health listed many
  accepted_fitting list = record {
    whole_count = many (WholeAt vol v) is_whole whole_at;
    doubtful_count = many (DoubtfulAt vol v) is_doubtful (λ i lt. tie_doubtful s S exact i (sector_of s i v) (sector_at i lt));
    clashing_count = many (ClashingAt vol v) is_clashing (λ i lt. tie_clashing s S exact i (sector_of s i v) (sector_at i lt));
    lost_count = many (LostAt vol v) is_lost lost_at;
    all_counted = all_counted w n;
    rounded_down = refl;
    health_most = health_most w n;
    health_full =
        let f = health_full w n (shape_facts s n v shaped).0 in
        (λ e i lt. (whole_at i lt).0 (f.0 e i lt), λ a. f.1 (λ i lt. (whole_at i lt).1 (a i lt)));
    front = listed w n;
    by_kind = refl;
    not_whole = listed_lists;
    once = entries_apart (Before vol v) n before_asym (λ i. WholeAt vol v i → ⊥) (listed w n) listed_lists;
    behind = refl;
  }

-- what a caller gets
abbrev Fitted : Volume → Triple → List ℕ → Report × List ℕ → Type 0
Fitted vol v before (refused m, after) = Unit {0}
Fitted vol v before (counted c, after) = ByFitting vol v before c after

pub by_fitting : (v : Triple) → AnyBytes v → (vol : Volume) (list : List ℕ) (c : Counts) (after : List ℕ)
    → survey_outcome v vol list ≡ (counted c, after) → ByFitting vol v list c after
by_fitting v bytes vol list c after e = of_outcome v vol list (Fitted vol v list) (λ o. accepted_fitting v bytes vol o.key o.size o.shape list) c after e

-- there is one list in repair order
pub repair_once : (v : Triple) → AnyBytes v → (vol : Volume) → is_key vol.key ≡ true → is_size vol.size ≡ true → is_shape vol.size vol.count v ≡ true
    → (P : ℕ → Type 0) (l m : List ℕ) → Lists (Before vol v) P vol.count l → Lists (Before vol v) P vol.count m → l ≡ m
repair_once v bytes vol ek es eh = one_list (Before vol v) vol.count (before_asym v bytes vol ek es eh)
