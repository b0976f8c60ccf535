-- What a survey refuses. Assumes nothing.
use mathlib.Core.Path.{◌≡◌, ap, ◌∙◌}
use mathlib.Core.Bool.{true, false}
use mathlib.Core.List.{List}
use mathlib.Core.Option.{Option, none, some}
use Prim.Native.Nat.{ℕ, ◌≤◌}
use lib.ListN.{length}
use Rattle.mode.specs.Scheme.{is_key, is_size}
use Rattle.mode.specs.Sealing.{Triple}
use Rattle.answers.specs.Rules.{settle_by, is_shape, is_zero_hash, Volume}
use Rattle.history.specs.Volume.{mirror}
use Rattle.answers.proofs.Passing.{survey_pass}
use Rattle.history.specs.History.{own}
use Rattle.report.specs.Survey.{Report, refused, verdict_at, surveyed, survey_outcome, survey_refusal}

-- what passes them
pub accepts : (v : Triple) (vol : Volume) (room : ℕ) → is_key vol.key ≡ true → is_zero_hash vol.key ≡ false → is_size vol.size ≡ true → is_shape vol.size vol.count v ≡ true
    → vol.count ≤ room → survey_refusal v vol room ≡ none
accepts v vol room ek eh es er l = survey_pass v vol room (record { key = ek; hash = eh; size = es; shape = er }) l

module _ (v : Triple) (vol : Volume) (list : List ℕ) where
  abbrev answer : Report × List ℕ
  answer = surveyed (verdict_at (own mirror vol) vol.size v) vol.count list

  pub survey_passes : survey_refusal v vol (length list) ≡ none → {x : Report × List ℕ} → answer ≡ x → survey_outcome v vol list ≡ x
  unfolding survey_outcome
  survey_passes e d = ap (λ (o : Option ℕ). settle_by refused o answer list) e ∙ d

  pub survey_refused : {m : ℕ} → survey_refusal v vol (length list) ≡ some m → survey_outcome v vol list ≡ (refused m, list)
  unfolding survey_outcome
  survey_refused e = ap (λ (o : Option ℕ). settle_by refused o answer list) e
