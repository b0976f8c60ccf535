-- The survey's answer as the C interface gives it. Assumes nothing: these are definitions. `SurveyNumbers`, at the end, states what is
-- proved of them, as `survey_numbers`.
use Rattle.std.specs.Prelude.{◌≡◌, List, [], ◌∷◌, ℕ, length}
use Rattle.std.proofs.Math.Option.{none, some}
use Rattle.mode.specs.Sealing.{Triple}
use Rattle.answers.specs.Rules.{Volume}
use Rattle.history.specs.HistoryFrom.{AnyBytes}
use Rattle.report.specs.declared.Counts.{Counts}
use Rattle.report.specs.Survey.{Report, refused, counted, ByFitting}
use Rattle.suspects.specs.Marks.{map_survey_refusal, map_survey_outcome}

abbrev pub numbers : Counts → List ℕ
numbers c = c.whole ∷ c.doubtful ∷ c.clashing ∷ c.lost ∷ c.health ∷ []

-- the number, the five counts and the list afterwards; a refusal leaves the counts as they were
abbrev pub survey_result : Report × List ℕ → List ℕ → ℕ × (List ℕ × List ℕ)
survey_result (refused k, list) before = (k, (before, list))
survey_result (counted c, list) before = (0, (numbers c, list))

pub record SurveyNumbers : Type 0 where
  -- a refused survey gives its number, and leaves the five and the list
  pub refuses : (v : Triple) (vol : Volume) (m list before : List ℕ) (k : ℕ) → map_survey_refusal v vol m (length list) ≡ some k
      → survey_result (map_survey_outcome v vol m list) before ≡ (k, (before, list))
  -- any other gives 0,
  pub answers : (v : Triple) (vol : Volume) (m list before : List ℕ) → map_survey_refusal v vol m (length list) ≡ none
      → (survey_result (map_survey_outcome v vol m list) before).0 ≡ 0
  -- and where the number is 0, the five are those of the sectors by fitting, in this order, and so is the list
  pub by_fitting : (v : Triple) → AnyBytes v → (vol : Volume) (m list before five after : List ℕ)
      → survey_result (map_survey_outcome v vol m list) before ≡ (0, (five, after))
      → (c : Counts) × (five ≡ c.whole ∷ c.doubtful ∷ c.clashing ∷ c.lost ∷ c.health ∷ []) × ByFitting vol v list c after
