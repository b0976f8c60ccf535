-- The verdict behind the code's answer of judging. Assumes nothing.
use mathlib.Core.Path.{◌≡◌, refl, ap, ◌∙◌}
use mathlib.Core.Bool.{false}
use mathlib.Core.List.{List}
use mathlib.Core.Option.{some}
use Prim.Native.Nat.{ℕ}
use native.Mathlib.Omega.{arith}
use Rattle.answers.specs.declared.Found.{Found}
use Rattle.answers.specs.declared.Found.TheVariants as F
use Rattle.answers.specs.declared.Place as D
use Rattle.answers.specs.declared.Refusal.{Refusal}
use Rattle.answers.specs.Answers.{refusal_number, place_named, finding_number}
use Rattle.verdict.specs.Judging.{verdict_refusal, verdict_outcome}
use Rattle.verdict.specs.Verdict.{Verdict, whole, doubtful, lost, clashing}
use Rattle.answers.proofs.Numbers.{refusal_range, doubt_least}
use Rattle.verdict.proofs.Numbers.{outcome_one}
use Rattle.history.specs.Answers.{is_whole}

abbrev number : ℕ × List ℕ → ℕ
number x = x.0

module _ (v : Verdict) (out : List ℕ) {o : List ℕ} where
  module _ {f : Found} (e : verdict_outcome v out ≡ (finding_number f, o)) where
    found : {x : Found} → f ≡ x → verdict_outcome v out ≡ (finding_number x, o)
    found q = e ∙ ap (λ (y : Found). (finding_number y, o)) q

    pub found_whole : f ≡ F.Whole → v ≡ whole o
    found_whole q = outcome_one v (whole o) out (found q)

    pub found_doubtful : {d : D.Place} → f ≡ F.Doubtful d → v ≡ doubtful (place_named d) o
    found_doubtful {d} q = outcome_one v (doubtful (place_named d) o) out (found q)

pub found_refused : (v : Verdict) (out : List ℕ) {o : List ℕ} (f : Refusal) → verdict_outcome v out ≡ (refusal_number f, o) → verdict_refusal v ≡ some (refusal_number f)
found_refused (whole P) out f e = absurd (omega (arith, ap number e, refusal_range f))
found_refused (doubtful p P) out f e = absurd (omega (arith, ap number e, refusal_range f, doubt_least p))
found_refused lost out f e = ap some (ap number e)
found_refused clashing out f e = ap some (ap number e)

pub refused_not_whole : (v : Verdict) {n : ℕ} → verdict_refusal v ≡ some n → is_whole v ≡ false
unfolding is_whole
refused_not_whole (whole P) e = cc
refused_not_whole (doubtful p P) e = refl
refused_not_whole lost e = refl
refused_not_whole clashing e = refl
