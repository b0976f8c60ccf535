-- A volume's calls answer by what fits. Assumes nothing but the laws of the sealing.
use mathlib.Core.Path.{◌≡◌, refl, sym, ap, ◌∙◌}
use mathlib.Core.Logic.{◌↔◌}
use mathlib.Core.Bool.{Bool, true, false, ◌&&◌, cond}
use mathlib.Core.List.{List}
use Prim.Native.Nat.{ℕ}
use native.Mathlib.Omega.{arith}
use lib.ListN.{length}
use Rattle.block.proofs.Lists.{false-true, and_left, and_right, and_both}
use Rattle.mode.specs.Sealing.{Triple}
use Rattle.mode.specs.Scheme.{Place, local, tag, remote, Scheme}
use Rattle.answers.specs.Answers.{doubt_number}
use Rattle.answers.specs.Rules.{Args}
use Rattle.verdict.specs.Judging.{verdict_outcome, verdict_number}
use Rattle.verdict.specs.Verdict.{Verdict, whole, doubtful, lost, clashing, fits, judge}
use Rattle.verdict.proofs.JudgeExact.{fits-Fits, Fits-fits, judge_exact}
use Rattle.verdict.proofs.Numbers.{outcome_number, number_whole, number_doubtful, number_lost, number_clashing}
use Rattle.history.specs.Answers.{is_whole}
use Rattle.history.specs.HistoryFrom.{AnyBytes}
use Rattle.history.specs.Meaning.{Passes, Is, FitsAt, sealed_in, CallMeans, CallsMean}
use Rattle.history.specs.Volume.{Call, blank, first, second, third, mend, read, sector, mirror, outcome, read_outcome, sealing}
use Rattle.history.proofs.Demand3.{mirror_sound}
use Rattle.history.proofs.Images.{sector_images, passed_lawful}
use Rattle.history.proofs.Outcomes.{mended, outcome_early, outcome-read, outcome_late, outcome_stage, outcome-mend, read_early, read_late}
use Rattle.history.proofs.Refusals.{passed, shape_images}
use Rattle.history.proofs.Sector.{is_whole_lem}

abbrev number : {A : Type 0} → ℕ × A → ℕ
number x = x.0

mended_number : (S : Scheme) (s i : ℕ) (v : Triple) (w : Verdict) → (mended S s i v w).0 ≡ verdict_number w
mended_number S s i v (whole P) = refl
mended_number S s i v (doubtful d P) = refl
mended_number S s i v lost = refl
mended_number S s i v clashing = refl

module _ (v : Triple) (b : AnyBytes v) (a : Args) where
  abbrev S : Scheme
  S = sealing mirror a

  abbrev verdict : Verdict
  verdict = judge S a.number (sector v a)

  -- ---- the verdict is the one that fitting means

  exact : (c : Call) → Passes v a c → (w : Verdict) → (verdict ≡ w) ↔ Is v a w
  exact c e w =
      let p = passed v a c e in
      judge_exact a.volume.size S (passed_lawful mirror mirror_sound v a p.common) a.number (sector v a)
      (sector_images a.volume.size a.volume.count a.number p.number v (shape_images a.volume.size a.volume.count v p.common.shape b)) w

  one_verdict : (c : Call) → Passes v a c → (w : Verdict) × Is v a w × ((u : Verdict) → Is v a u → u ≡ w)
  one_verdict c e = (verdict, (exact c e verdict).0 refl, λ u m. sym ((exact c e u).1 m))

  -- ---- read

  module _ (out : List ℕ) (e : Passes v a (read (length out))) where
    abbrev Gives : ℕ × List ℕ → Type 0
    Gives r = read_outcome mirror v a out ≡ r

    judged : Gives (verdict_outcome verdict out)
    judged = read_late mirror v a out e

    read_number : (r : ℕ × List ℕ) → Gives r → verdict_number verdict ≡ r.0
    read_number r g = sym (outcome_number verdict out) ∙ ap number (sym judged ∙ g)

    gives : (w : Verdict) → Is v a w → Gives (verdict_outcome w out)
    gives w m = judged ∙ ap (λ (u : Verdict). verdict_outcome u out) ((exact (read (length out)) e w).1 m)

    -- the plaintext of a verdict that has one
    given : (r : ℕ × List ℕ) → Gives r → (u : Verdict) → verdict ≡ u → (verdict_outcome u out).1 ≡ r.1
    given r g u z = ap (λ (x : Verdict). (verdict_outcome x out).1) (sym z) ∙ ap (λ (x : ℕ × List ℕ). x.1) (sym judged ∙ g)

    read_lost : Gives (6, out) ↔ Is v a lost
    read_lost = (λ g. (exact (read (length out)) e lost).0 (number_lost verdict (read_number (6, out) g)), gives lost)

    read_clashing : Gives (7, out) ↔ Is v a clashing
    read_clashing = (λ g. (exact (read (length out)) e clashing).0 (number_clashing verdict (read_number (7, out) g)), gives clashing)

    read_whole : (P : List ℕ) → Gives (0, P) ↔ Is v a (whole P)
    read_whole P = (
      λ g. let u = number_whole verdict (read_number (0, P) g) in
          (exact (read (length out)) e (whole P)).0 (u.1 ∙ ap whole (given (0, P) g (whole u.0) u.1)),
      gives (whole P),
    )

    read_doubtful : (d : Place) (P : List ℕ) → Gives (doubt_number d, P) ↔ Is v a (doubtful d P)
    read_doubtful d P = (
      λ g. let u = number_doubtful verdict d (read_number (doubt_number d, P) g) in
          (exact (read (length out)) e (doubtful d P)).0 (u.1 ∙ ap (doubtful d) (given (doubt_number d, P) g (doubtful d u.0) u.1)),
      gives (doubtful d P),
    )

  -- ---- mend

  module _ (e : Passes v a mend) where
    abbrev Mends : ℕ × Triple → Type 0
    Mends r = outcome mirror v a mend ≡ r

    mend_number : {n : ℕ} → (outcome mirror v a mend).0 ≡ n → verdict_number verdict ≡ n
    mend_number g = sym (ap number (outcome-mend mirror v a e) ∙ mended_number S a.volume.size a.number v verdict) ∙ g

    mends : (w : Verdict) → Is v a w → Mends (mended S a.volume.size a.number v w)
    mends w m = outcome-mend mirror v a e ∙ ap (mended S a.volume.size a.number v) ((exact mend e w).1 m)

    mend_lost : Mends (6, v) ↔ Is v a lost
    mend_lost = (λ g. (exact mend e lost).0 (number_lost verdict (mend_number (ap number g))), mends lost)

    mend_clashing : Mends (7, v) ↔ Is v a clashing
    mend_clashing = (λ g. (exact mend e clashing).0 (number_clashing verdict (mend_number (ap number g))), mends clashing)

    mend_whole : Mends (0, v) ↔ ((P : List ℕ) × Is v a (whole P))
    mend_whole = (
      λ g. let u = number_whole verdict (mend_number (ap number g)) in (u.0, (exact mend e (whole u.0)).0 u.1),
      λ m. mends (whole m.0) m.1,
    )

    mend_doubtful : (d : Place) → ((outcome mirror v a mend).0 ≡ doubt_number d) ↔ ((P : List ℕ) × Is v a (doubtful d P))
    mend_doubtful d = (
      λ g. let u = number_doubtful verdict d (mend_number g) in (u.0, (exact mend e (doubtful d u.0)).0 u.1),
      λ m. ap number (mends (doubtful d m.0) m.1),
    )

  -- ---- stages

  -- a stage that refuses 10 unless x holds, where x holds exactly if Y does
  refuses_10 : (c : Call) (w : Triple) (x : Bool) (Y : Type 0) → outcome mirror v a c ≡ cond x (0, w) (10, v) → (x ≡ true → Y) → (Y → x ≡ true)
      → (outcome mirror v a c ≡ (10, v)) ↔ (Y → ⊥)
  refuses_10 c w true Y o holds only = (λ g y. omega (arith, ap number (sym o ∙ g)), λ n. absurd (n (holds refl)))
  refuses_10 c w false Y o holds only = (λ g y. false-true (only y), λ n. o)

  writes_0 : (c : Call) (w : Triple) (x : Bool) → outcome mirror v a c ≡ cond x (0, w) (10, v) → x ≡ true → outcome mirror v a c ≡ (0, w)
  writes_0 c w x o h = o ∙ ap (λ (y : Bool). cond y (0, w) (10, v)) h

  module _ (P : List ℕ) where
    fitted : (p : Place) → fits S a.number (sector v a) p P ≡ true → FitsAt v a p P
    fitted p h = fits-Fits S a.number (sector v a) p P h

    fitting : (p : Place) → FitsAt v a p P → fits S a.number (sector v a) p P ≡ true
    fitting p h = Fits-fits S a.number (sector v a) p P h

    first_outcome : Passes v a (first P) → outcome mirror v a (first P) ≡ cond (is_whole verdict) (0, sealed_in v a local P) (10, v)
    first_outcome e = outcome_stage mirror v a (first P) (is_whole verdict) e refl refl

    whole_is : Passes v a (first P) → is_whole verdict ≡ true → (Q : List ℕ) × Is v a (whole Q)
    whole_is e h = let u = is_whole_lem verdict h in (u.0, (exact (first P) e (whole u.0)).0 u.1)

    is_whole_of : Passes v a (first P) → (Q : List ℕ) × Is v a (whole Q) → is_whole verdict ≡ true
    unfolding is_whole
    is_whole_of e m = ap is_whole ((exact (first P) e (whole m.0)).1 m.1)

    first_refuses : Passes v a (first P) → (outcome mirror v a (first P) ≡ (10, v)) ↔ ((Q : List ℕ) → Is v a (whole Q) → ⊥)
    first_refuses e =
        let r = refuses_10 (first P) (sealed_in v a local P) (is_whole verdict) ((Q : List ℕ) × Is v a (whole Q)) (first_outcome e) (whole_is e) (is_whole_of e) in
        (λ g Q m. r.0 g (Q, m), λ n. r.1 (λ z. n z.0 z.1))

    second_outcome : Passes v a (second P) → outcome mirror v a (second P) ≡ cond (fits S a.number (sector v a) local P) (0, sealed_in v a tag P) (10, v)
    second_outcome e = outcome_stage mirror v a (second P) (fits S a.number (sector v a) local P) e refl refl

    both : Bool
    both = fits S a.number (sector v a) local P && fits S a.number (sector v a) tag P

    both_fit : both ≡ true → FitsAt v a local P × FitsAt v a tag P
    unfolding both
    both_fit h = (
      fitted local (and_left (fits S a.number (sector v a) local P) (fits S a.number (sector v a) tag P) h),
      fitted tag (and_right (fits S a.number (sector v a) local P) (fits S a.number (sector v a) tag P) h),
    )

    fit_both : FitsAt v a local P × FitsAt v a tag P → both ≡ true
    unfolding both
    fit_both h = and_both (fits S a.number (sector v a) local P) (fits S a.number (sector v a) tag P) (fitting local h.0) (fitting tag h.1)

    third_outcome : Passes v a (third P) → outcome mirror v a (third P) ≡ cond both (0, sealed_in v a remote P) (10, v)
    unfolding both
    third_outcome e = outcome_stage mirror v a (third P) both e refl refl

  call_means : CallMeans v a
  call_means = record {
    refuses = λ c k e. outcome_early mirror v a c e;
    read_refuses = λ out k e. read_early mirror v a out e;
    one_verdict = one_verdict;
    read_leaves = λ out. outcome-read mirror v a out;
    read_lost = read_lost;
    read_clashing = read_clashing;
    read_whole = read_whole;
    read_doubtful = read_doubtful;
    mend_lost = mend_lost;
    mend_clashing = mend_clashing;
    mend_whole = mend_whole;
    mend_doubtful = mend_doubtful;
    mend_writes = λ e d P m. mends e (doubtful d P) m;
    first_refuses = first_refuses;
    first_writes = λ P e Q m. writes_0 (first P) (sealed_in v a local P) (is_whole verdict) (first_outcome P e) (is_whole_of P e (Q, m));
    second_refuses = λ P e. refuses_10 (second P) (sealed_in v a tag P) (fits S a.number (sector v a) local P) (FitsAt v a local P) (second_outcome P e) (fitted P local) (fitting P local);
    second_writes = λ P e h. writes_0 (second P) (sealed_in v a tag P) (fits S a.number (sector v a) local P) (second_outcome P e) (fitting P local h);
    third_refuses = λ P e. refuses_10 (third P) (sealed_in v a remote P) (both P) (FitsAt v a local P × FitsAt v a tag P) (third_outcome P e) (both_fit P) (fit_both P);
    third_writes = λ P e h. writes_0 (third P) (sealed_in v a remote P) (both P) (third_outcome P e) (fit_both P h);
    blank_writes = λ e. outcome_late mirror v a blank e;
  }

pub calls_mean : CallsMean
calls_mean v b a = call_means v b a
