-- The five numbers of a survey by fitting. Assumes nothing.
use mathlib.Core.Path.{◌≡◌, refl, sym, ap, subst, ◌∙◌}
use mathlib.Core.List.{List, [], ◌∷◌}
use mathlib.Core.Option.{Option, none, some}
use Prim.Native.Nat.{ℕ, ◌<◌}
use native.Mathlib.Omega.{arith}
use lib.Dec.{lit<}
use lib.ListN.{length}
use Rattle.mode.specs.Sealing.{Triple}
use Rattle.answers.specs.Rules.{is_shape, survey_and_map_rules, Volume}
use Rattle.verdict.specs.Verdict.{Verdict}
use Rattle.history.specs.Answers.{is_whole}
use Rattle.history.specs.HistoryFrom.{AnyBytes}
use Rattle.history.specs.Volume.{mirror}
use Rattle.history.specs.History.{own}
use Rattle.report.specs.declared.Counts.{Counts}
use Rattle.report.specs.Survey.{tally, health, counts_of, written, Report, verdict_at, surveyed, survey_outcome, ByFitting}
use Rattle.report.proofs.SurveyFacts.{survey_facts}
use Rattle.suspects.specs.Marks.{map_survey_refusal, map_survey_outcome}
use Rattle.suspects.proofs.Marking.{every_first}
use Rattle.suspects.proofs.Calls.{survey_done, survey_refused, survey_goes_on}
use Rattle.mirror.specs.Survey.{survey_result, SurveyNumbers}

-- no refusal of a survey has the number 0
not_zero : (v : Triple) (vol : Volume) (m : List ℕ) (room : ℕ) → map_survey_refusal v vol m room ≡ some 0 → ⊥
not_zero v vol m room e =
    let z : 0 < 0 =
    every_first (λ k. 0 < k) (survey_and_map_rules vol.key vol.size vol.count (is_shape vol.size vol.count v) (length m) room)
    (lit< tt, (lit< tt, (lit< tt, (lit< tt, (lit< tt, (lit< tt, tt)))))) 0 e in
    omega arith

module _ (v : Triple) (vol : Volume) (m list before : List ℕ) where
  abbrev w : ℕ → Verdict
  w = verdict_at (own mirror vol) vol.size v

  abbrev c : Counts
  c = counts_of w vol.count (health (tally is_whole w vol.count) vol.count)

  -- what a survey answers that is not refused
  counts_now : map_survey_refusal v vol m (length list) ≡ none → map_survey_outcome v vol m list ≡ surveyed w vol.count list
  counts_now e = survey_done v vol m list e (survey_facts.answers v vol list (survey_goes_on v vol m list e))

  refuses : (k : ℕ) → map_survey_refusal v vol m (length list) ≡ some k → survey_result (map_survey_outcome v vol m list) before ≡ (k, (before, list))
  refuses k e = ap (λ (x : Report × List ℕ). survey_result x before) (survey_refused v vol m list e)

  by_fitting : AnyBytes v → (five after : List ℕ) → survey_result (map_survey_outcome v vol m list) before ≡ (0, (five, after))
      → (c : Counts) × (five ≡ c.whole ∷ c.doubtful ∷ c.clashing ∷ c.lost ∷ c.health ∷ []) × ByFitting vol v list c after
  by_fitting bytes five after e = go (map_survey_refusal v vol m (length list)) refl
    where
      go : (o : Option ℕ) → map_survey_refusal v vol m (length list) ≡ o → (c : Counts) × (five ≡ c.whole ∷ c.doubtful ∷ c.clashing ∷ c.lost ∷ c.health ∷ []) × ByFitting vol v list c after
      go none d =
          let a : survey_outcome v vol list ≡ surveyed w vol.count list = survey_facts.answers v vol list (survey_goes_on v vol m list d) in
          let r : survey_result (surveyed w vol.count list) before ≡ (0, (five, after)) = ap (λ (x : Report × List ℕ). survey_result x before) (sym (counts_now d)) ∙ e in (
            c,
            ap (λ (x : ℕ × (List ℕ × List ℕ)). x.1.0) (sym r),
            subst (λ (l : List ℕ). ByFitting vol v list c l) (ap (λ (x : ℕ × (List ℕ × List ℕ)). x.1.1) r) (survey_facts.by_fitting v bytes vol list c (written w vol.count list) a),
          )
      go (some k) d =
          let r : ◌≡◌ {A = ℕ × (List ℕ × List ℕ)} (k, (before, list)) (0, (five, after)) = sym (refuses k d) ∙ e in
          absurd (not_zero v vol m (length list) (d ∙ ap some (ap (λ (x : ℕ × (List ℕ × List ℕ)). x.0) r)))

pub survey_numbers : SurveyNumbers
survey_numbers = record {
  refuses = refuses;
  answers = λ v vol m list before e. ap (λ (x : Report × List ℕ). (survey_result x before).0) (counts_now v vol m list before e);
  by_fitting = λ v bytes vol m list before. by_fitting v vol m list before bytes;
}
