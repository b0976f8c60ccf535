-- The answers of the calls on a volume. Assumes nothing: these are definitions.
use Rattle.std.specs.Prelude.{Bool, true, false, List, ℕ}
use Rattle.std.proofs.Math.Option.{Option, none, some}
use Rattle.mode.specs.Scheme.{Place}
use Rattle.answers.specs.Answers.{found_number}
use Rattle.verdict.specs.Verdict.{Verdict, whole, doubtful, lost, clashing}

pub data Answer : Type 0 where
  refused : ℕ → Answer
  -- of blank and of a stage
  done : Answer
  -- of a read: no place for whole, or the doubtful one, and the plaintext
  gives : Option Place → List ℕ → Answer
  -- of a mend: the verdict found, in the same way
  found : Option Place → Answer

abbrev pub reply : Option ℕ → Answer → Answer
reply none r = r
reply (some k) r = refused k

unfoldable pub is_whole : Verdict → Bool
is_whole (whole P) = true
is_whole (doubtful d P) = false
is_whole lost = false
is_whole clashing = false

unfoldable pub is_doubtful : Verdict → Bool
is_doubtful (whole P) = false
is_doubtful (doubtful d P) = true
is_doubtful lost = false
is_doubtful clashing = false

unfoldable pub is_lost : Verdict → Bool
is_lost (whole P) = false
is_lost (doubtful d P) = false
is_lost lost = true
is_lost clashing = false

unfoldable pub is_clashing : Verdict → Bool
is_clashing (whole P) = false
is_clashing (doubtful d P) = false
is_clashing lost = false
is_clashing clashing = true

-- ---- numbers, and the output of a call

abbrev pub answer_number : Answer → ℕ
answer_number (refused n) = n
answer_number done = 0
answer_number (gives d P) = found_number d
answer_number (found d) = found_number d

-- what a call leaves in its output, which was `out`
abbrev pub output : Answer → List ℕ → List ℕ
output (refused n) out = out
output done out = out
output (gives d P) out = P
output (found d) out = out
