-- What is proved of the survey. Assumes nothing.
use mathlib.Core.Path.{◌≡◌, refl, ap, ◌∙◌}
use mathlib.Core.Bool.{Bool, true, false}
use mathlib.Core.List.{List}
use mathlib.Core.Option.{none, some}
use Prim.Native.Nat.{ℕ, ◌+◌, ◌<◌, ◌≤◌}
use native.Mathlib.Omega.{arith}
use lib.ListN.{length}
use Rattle.block.proofs.Lists.{false-true}
use Rattle.mode.specs.Sealing.{Triple}
use Rattle.mode.specs.Scheme.{Scheme}
use Rattle.history.specs.Answers.{is_lost}
use Rattle.history.specs.History.{Found, Promise, Promised, own}
use Rattle.history.specs.HistoryFrom.{AnyBytes}
use Rattle.history.specs.Machine.{Held, gone, kept, start}
use Rattle.answers.specs.Rules.{Volume, settle_by}
use Rattle.history.specs.Power.{Event, AllAllowed, run, hold}
use Rattle.history.specs.Volume.{mirror}
use Rattle.history.proofs.Demand3.{mirror_sound, general}
use Rattle.history.proofs.Events.{run_bytes}
use Rattle.answers.proofs.Passing.{Common}
use Rattle.history.specs.Number.{mirror_before}
use Rattle.history.proofs.Number.{number_facts}
use Rattle.report.specs.declared.Counts.{Counts}
use Rattle.report.specs.Survey.{tally, Report, refused, counted, verdict_at, survey_outcome, LostAt, is_kept, SurveyFacts, survey_refusal, surveyed}
use Rattle.report.proofs.ByFitting.{of_outcome, lost_at, by_fitting, repair_once}
use Rattle.report.proofs.Refusals.{accepts, survey_passes, survey_refused}
use Rattle.report.proofs.Once.{lists_once}
use Rattle.report.proofs.Tallies.{all_counted, apart}

-- ---- after a list of events

-- what is promised of a sector that is kept
found_of : (vol : Volume) (v : Triple) (i : ℕ) (x : Held) → is_kept x ≡ true → Promise mirror vol v i x → Found mirror vol v i
unfolding is_kept
found_of vol v i gone e p = false-true e
found_of vol v i (kept P none) e p = p.0
found_of vol v i (kept P (some q)) e p = p.0

module _ (vol : Volume) (v : Triple) (bytes : AnyBytes v) (es : List Event) (allowed : AllAllowed mirror vol v es) where
  kept_found : (i : ℕ) → i < vol.count → is_kept (hold mirror vol v start es i) ≡ true → LostAt vol (run mirror vol v es) i → ⊥
  kept_found i lt e =
      let promised : Promised mirror vol (run mirror vol v es) (hold mirror vol v start es) = general.from_any_lengths vol v bytes es allowed in
      (found_of vol (run mirror vol v es) i (hold mirror vol v start es i) e (promised.held i lt)).not_lost

  -- no more are kept than are counted as whole, doubtful or clashing
  abbrev Covers : Report × List ℕ → Type 0
  Covers (refused m, list) = Unit {0}
  Covers (counted c, list) = tally is_kept (hold mirror vol v start es) vol.count ≤ c.whole + c.doubtful + c.clashing

  kept_not_lost : Common (run mirror vol v es) vol → (i : ℕ) → i < vol.count → is_kept (hold mirror vol v start es i) ≡ true
      → is_lost (verdict_at (own mirror vol) vol.size (run mirror vol v es) i) ≡ false
  kept_not_lost o i lt e = go (is_lost (verdict_at (own mirror vol) vol.size (run mirror vol v es) i)) refl
    where
      go : (b : Bool) → is_lost (verdict_at (own mirror vol) vol.size (run mirror vol v es) i) ≡ b → b ≡ false
      go true d = absurd (kept_found i lt e ((lost_at (run mirror vol v es) (run_bytes mirror mirror_sound vol es v bytes allowed) vol o.key o.size o.shape i lt).0 d))
      go false d = refl

  kept_counted : (list : List ℕ) (c : Counts) (after : List ℕ)
      → survey_outcome (run mirror vol v es) vol list ≡ (counted c, after)
      → tally is_kept (hold mirror vol v start es) vol.count ≤ c.whole + c.doubtful + c.clashing
  kept_counted list =
      of_outcome (run mirror vol v es) vol list Covers
      (λ o. let w = verdict_at (own mirror vol) vol.size (run mirror vol v es) in
      omega (arith, all_counted w vol.count, apart is_kept is_lost (hold mirror vol v start es) w vol.count (kept_not_lost o)))

number_0 : (v : Triple) (vol : Volume) (list : List ℕ) → vol.number ≡ 0
    → survey_outcome v vol list
    ≡ settle_by refused (survey_refusal v vol (length list)) (surveyed (verdict_at (mirror_before vol.key) vol.size v) vol.count list) list
unfolding survey_outcome
number_0 v vol list zero =
    ap (λ (S : Scheme). settle_by refused (survey_refusal v vol (length list)) (surveyed (verdict_at S vol.size v) vol.count list) list)
    (ap (mirror vol.key) zero ∙ number_facts.seals_as_before vol.key)

pub survey_facts : SurveyFacts
survey_facts = record {
  lists_once = lists_once;
  repair_once = repair_once;
  accepts = accepts;
  refuses = λ v vol list m. survey_refused v vol list;
  answers = λ v vol list e. survey_passes v vol list e refl;
  number_0 = number_0;
  by_fitting = by_fitting;
  kept_found = kept_found;
  kept_counted = kept_counted;
}
