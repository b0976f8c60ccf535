-- The sides as the code names them, what judging answers, and what it has found of local ⊕ remote. Assumes nothing: these are definitions.
use Rattle.std.specs.Prelude.{◌≡◌, true, false, List, [], ℕ}
use Rattle.std.proofs.Math.Option.{Option, none, some}
use Rattle.block.specs.Bytes.{xor_bytes}
use Rattle.mode.specs.declared.Direction.{Direction}
use Rattle.mode.specs.declared.Direction.TheVariants.{SealLocal, SealRemote, OpenLocal, OpenRemote}
use Rattle.mode.specs.Scheme.{Place, tag, remote, Scheme}
use Rattle.mode.specs.Sealing.{Triple}
use Rattle.answers.specs.Answers.{found_number}
use Rattle.answers.specs.Rules.{settle}
use Rattle.answers.specs.declared.side.Side as D
use Rattle.answers.specs.declared.side.Side.TheVariants.{Local, Remote}
use Rattle.verdict.specs.Verdict.{Verdict, whole, doubtful, lost, clashing, fits, judge, Side, local_side, remote_side}

-- the side that the code's enum names
abbrev pub side_named : D.Side → Side
side_named Local = local_side
side_named Remote = remote_side

-- how the blocks of a side are opened
abbrev pub opening_of : Side → Direction
opening_of local_side = OpenLocal
opening_of remote_side = OpenRemote

-- and sealed
abbrev pub sealing_of : Side → Direction
sealing_of local_side = SealLocal
sealing_of remote_side = SealRemote

-- ---- what a verdict answers

-- refusals 6 and 7
abbrev pub verdict_refusal : Verdict → Option ℕ
verdict_refusal (whole P) = none
verdict_refusal (doubtful p P) = none
verdict_refusal lost = some 6
verdict_refusal clashing = some 7

-- of a verdict that is not refused: the doubtful place, and none where it is whole
abbrev pub verdict_doubt : Verdict → Option Place
verdict_doubt (whole P) = none
verdict_doubt (doubtful p P) = some p
verdict_doubt lost = none
verdict_doubt clashing = none

-- and the plaintext
abbrev pub verdict_plain : Verdict → List ℕ
verdict_plain (whole P) = P
verdict_plain (doubtful p P) = P
verdict_plain lost = []
verdict_plain clashing = []

-- the number of a verdict, and the output afterwards, which was `out`
abbrev pub verdict_outcome : Verdict → List ℕ → ℕ × List ℕ
verdict_outcome v out = settle (verdict_refusal v) (found_number (verdict_doubt v), verdict_plain v) out

-- the number alone
abbrev pub verdict_number : Verdict → ℕ
verdict_number v = (verdict_outcome v []).0

-- what judging answers and leaves
abbrev pub judged_by : Scheme → ℕ → Triple → List ℕ → ℕ × List ℕ
judged_by S T t out = verdict_outcome (judge S T t) out

-- local ⊕ remote fits both sides, and not the tag
pub record SumFits (S : Scheme) (T : ℕ) (t : Triple) (sum : List ℕ) : Type 0 where
  pub is_sum : sum ≡ xor_bytes t.local t.remote
  pub fits_remote : fits S T t remote sum ≡ true
  pub fits_no_tag : fits S T t tag sum ≡ false

-- local ⊕ remote does not fit the sides
unfoldable pub SumFails : Scheme → ℕ → Triple → Type 0
SumFails S T t = fits S T t remote (xor_bytes t.local t.remote) ≡ false
