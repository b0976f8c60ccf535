-- A survey's answer under its number. Assumes nothing.
use mathlib.Core.Path.{◌≡◌, sym, ap, ◌∙◌}
use mathlib.Core.List.{List}
use Prim.Native.Nat.{ℕ}
use Rattle.report.specs.declared.Counts.{Counts}
use Rattle.report.specs.Survey.{Report, refused, counted}
use Rattle.mirror.specs.Survey.{numbers, survey_result}

-- a survey that answers x and leaves this list
pub survey_counted : (x : Report × List ℕ) (before : List ℕ) {list : List ℕ} {c : Counts} {five : List ℕ} → x ≡ (counted c, list) → five ≡ numbers c
    → survey_result x before ≡ (0, (five, list))
survey_counted x before {list} e d = ap (λ (z : Report × List ℕ). survey_result z before) e ∙ ap (λ (l : List ℕ). (0, (l, list))) (sym d)

pub survey_refused : (x : Report × List ℕ) (before : List ℕ) {list : List ℕ} {k n : ℕ} → x ≡ (refused k, list) → n ≡ k → survey_result x before ≡ (n, (before, list))
survey_refused x before {list} e d = ap (λ (z : Report × List ℕ). survey_result z before) e ∙ ap (λ (k : ℕ). (k, (before, list))) (sym d)
