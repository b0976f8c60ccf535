-- What a caller gets, where the early checks refuse and where they pass. Assumes nothing.
use mathlib.Core.Path.{◌≡◌, refl, ap, ap₂, ◌∙◌}
use mathlib.Core.Bool.{Bool, true, false, not, cond}
use mathlib.Core.List.{List, [], ◌∷◌}
use mathlib.Core.Option.{Option, none, some}
use Prim.Native.Nat.{ℕ}
use lib.ListN.{length}
use Rattle.mode.specs.Sealing.{Triple}
use Rattle.mode.specs.Scheme.{on, Scheme}
use Rattle.answers.specs.Answers.{found_number}
use Rattle.answers.specs.Rules.{rule, first_of, settle, Args}
use Rattle.verdict.specs.Judging.{verdict_refusal, verdict_doubt, verdict_plain, verdict_outcome}
use Rattle.verdict.specs.Verdict.{Verdict, whole, doubtful, lost, clashing, judge}
use Rattle.history.specs.Answers.{Answer, done, gives, reply, answer_number, output}
use Rattle.history.specs.Volume.{write_all, Call, mend, read, judge_rules, early, late, mends, result, unless, sector, sealing, refusal, answer, after, outcome, read_outcome, Schemes}
use Rattle.history.specs.Power.{finished}
use Rattle.history.proofs.Refusals.{refusal_late, refusal_early, answer_refused, answer_late, early_answer}
use Rattle.history.proofs.Images.{accepted, after_refused}

-- the number and the images of a mend, by the verdict that it finds
abbrev pub mended : Scheme → ℕ → ℕ → Triple → Verdict → ℕ × Triple
mended S s i v w = settle (verdict_refusal w) (found_number (verdict_doubt w), write_all s i (on (S.sealed i (mends w).plain)) (mends w).places v) v

-- the number and the output of a read
read_by : (w : Verdict) (out : List ℕ) →
    let r = reply (first_of (judge_rules w)) (gives (verdict_doubt w) (verdict_plain w)) in
    (answer_number r, output r out) ≡ verdict_outcome w out
read_by (whole P) out = refl
read_by (doubtful d P) out = refl
read_by lost out = refl
read_by clashing out = refl

module _ (seals : Schemes) (v : Triple) (a : Args) where
  -- ---- refused

  pub outcome_refused : (c : Call) {n : ℕ} → refusal seals v a c ≡ some n → outcome seals v a c ≡ (n, v)
  unfolding outcome
  outcome_refused c {n} e = ap₂ (λ (r : Answer) (w : Triple). (answer_number r, w)) (answer_refused seals v a c n e) (after_refused seals v a c n e)

  pub outcome_early : (c : Call) {n : ℕ} → first_of (early v a c) ≡ some n → outcome seals v a c ≡ (n, v)
  outcome_early c {n} e = outcome_refused c (refusal_early seals v a c n e)

  pub read_early : (out : List ℕ) {n : ℕ} → first_of (early v a (read (length out))) ≡ some n → read_outcome seals v a out ≡ (n, out)
  unfolding read_outcome
  read_early out {n} e = ap (λ (r : Answer). (answer_number r, output r out)) (early_answer seals v a (read (length out)) n e)

  -- a read changes no image, refused or not
  pub outcome-read : (out : List ℕ) → outcome seals v a (read (length out)) ≡ ((read_outcome seals v a out).0, v)
  unfolding outcome read_outcome after
  outcome-read out = ap (λ (w : Triple). (answer_number (answer seals v a (read (length out))), w)) (go (refusal seals v a (read (length out))))
    where
      go : (o : Option ℕ) → unless o v v ≡ v
      go none = refl
      go (some k) = refl

  -- ---- past the early refusals

  settled : (o : Option ℕ) (r : Answer) (w : Triple) → (answer_number (reply o r), unless o v w) ≡ settle o (answer_number r, w) v
  settled none r w = refl
  settled (some n) r w = refl

  pub outcome_late : (c : Call) → first_of (early v a c) ≡ none
      → outcome seals v a c ≡ settle (first_of (late (sealing seals a) a.number (sector v a) c)) (answer_number (result (sealing seals a) a.number (sector v a) c), accepted seals v a c finished) v
  unfolding outcome answer after
  outcome_late c e =
      ap (λ (o : Option ℕ). (answer_number (reply o (result (sealing seals a) a.number (sector v a) c)), unless o v (accepted seals v a c finished))) (refusal_late seals v a c e)
      ∙ settled (first_of (late (sealing seals a) a.number (sector v a) c)) (result (sealing seals a) a.number (sector v a) c) (accepted seals v a c finished)

  -- a stage: 10 unless x holds
  pub outcome_stage : (c : Call) (x : Bool) → first_of (early v a c) ≡ none
      → first_of (late (sealing seals a) a.number (sector v a) c) ≡ first_of (rule 10 (not x) ∷ []) → result (sealing seals a) a.number (sector v a) c ≡ done
      → outcome seals v a c ≡ cond x (0, accepted seals v a c finished) (10, v)
  outcome_stage c x e l d =
      outcome_late c e
      ∙ ap₂ (λ (o : Option ℕ) (r : Answer). settle o (answer_number r, accepted seals v a c finished) v) l d
      ∙ stage_by x
    where
      stage_by : (x : Bool) → settle (first_of (rule 10 (not x) ∷ [])) (0, accepted seals v a c finished) v ≡ cond x (0, accepted seals v a c finished) (10, v)
      stage_by true = refl
      stage_by false = refl

  -- ---- by the verdict

  mend_by_lem : (w : Verdict) → settle (first_of (judge_rules w)) (found_number (verdict_doubt w), write_all a.volume.size a.number (on ((sealing seals a).sealed a.number (mends w).plain)) (mends w).places v) v ≡ mended (sealing seals a) a.volume.size a.number v w
  mend_by_lem (whole P) = refl
  mend_by_lem (doubtful p P) = refl
  mend_by_lem lost = refl
  mend_by_lem clashing = refl

  pub outcome-mend : first_of (early v a mend) ≡ none → outcome seals v a mend ≡ mended (sealing seals a) a.volume.size a.number v (judge (sealing seals a) a.number (sector v a))
  outcome-mend e = outcome_late mend e ∙ mend_by_lem (judge (sealing seals a) a.number (sector v a))

  pub read_late : (out : List ℕ) → first_of (early v a (read (length out))) ≡ none → read_outcome seals v a out ≡ verdict_outcome (judge (sealing seals a) a.number (sector v a)) out
  unfolding read_outcome
  read_late out e =
      ap (λ (r : Answer). (answer_number r, output r out)) (answer_late seals v a (read (length out)) e) ∙ read_by (judge (sealing seals a) a.number (sector v a)) out
