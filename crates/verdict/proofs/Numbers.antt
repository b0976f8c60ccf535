-- The numbers of verdicts. Assumes nothing.
use mathlib.Core.Path.{◌≡◌, refl, sym, ap, ◌∙◌}
use mathlib.Core.Bool.{cond}
use mathlib.Core.List.{List, []}
use Prim.Native.Nat.{ℕ}
use lib.Dec.{eqb}
use Rattle.mode.specs.Scheme.{Place, local, tag, remote}
use Rattle.answers.specs.Answers.{doubt_number}
use Rattle.verdict.specs.Judging.{verdict_outcome, verdict_number}
use Rattle.verdict.specs.Verdict.{Verdict, whole, doubtful, lost, clashing}

-- the number of a verdict does not depend on the output
pub outcome_number : (w : Verdict) (out : List ℕ) → (verdict_outcome w out).0 ≡ verdict_number w
outcome_number (whole P) out = refl
outcome_number (doubtful d P) out = refl
outcome_number lost out = refl
outcome_number clashing out = refl

-- ---- an answer and its bytes name the verdict

abbrev named : ℕ × List ℕ → Verdict
named a =
    cond (eqb a.0 0) (whole a.1)
    (cond (eqb a.0 6) lost
    (cond (eqb a.0 7) clashing
    (cond (eqb a.0 0x81) (doubtful local a.1) (cond (eqb a.0 0x82) (doubtful tag a.1) (doubtful remote a.1)))))

named_back : (w : Verdict) (out : List ℕ) → named (verdict_outcome w out) ≡ w
named_back (whole P) out = refl
named_back (doubtful local P) out = refl
named_back (doubtful tag P) out = refl
named_back (doubtful remote P) out = refl
named_back lost out = refl
named_back clashing out = refl

pub outcome_one : (v w : Verdict) (out : List ℕ) → verdict_outcome v out ≡ verdict_outcome w out → v ≡ w
outcome_one v w out e = sym (named_back v out) ∙ ap named e ∙ named_back w out

-- and so does its number, but for the plaintext
number_named : (w : Verdict) (n : ℕ) → verdict_number w ≡ n → w ≡ named (n, (verdict_outcome w []).1)
number_named w n e = sym (named_back w []) ∙ ap (λ (m : ℕ). named (m, (verdict_outcome w []).1)) e

pub number_whole : (w : Verdict) → verdict_number w ≡ 0 → (P : List ℕ) × (w ≡ whole P)
number_whole w e = ((verdict_outcome w []).1, number_named w 0 e)

pub number_doubtful : (w : Verdict) (d : Place) → verdict_number w ≡ doubt_number d → (P : List ℕ) × (w ≡ doubtful d P)
number_doubtful w local e = ((verdict_outcome w []).1, number_named w 0x81 e)
number_doubtful w tag e = ((verdict_outcome w []).1, number_named w 0x82 e)
number_doubtful w remote e = ((verdict_outcome w []).1, number_named w 0x83 e)

pub number_lost : (w : Verdict) → verdict_number w ≡ 6 → w ≡ lost
number_lost w e = number_named w 6 e

pub number_clashing : (w : Verdict) → verdict_number w ≡ 7 → w ≡ clashing
number_clashing w e = number_named w 7 e
