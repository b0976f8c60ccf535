-- Answers: their numbers in document 01, and the enums of the code. Assumes nothing: these are definitions.
use Rattle.std.proofs.Math.Option.{Option, none, some}
use Rattle.std.specs.Prelude.{ℕ, zero, suc, Result, Ok, Err}
use Rattle.mode.specs.Scheme.{local, tag, remote}
use Rattle.mode.specs.Scheme as M
use Rattle.answers.specs.declared.Place.{Place}
use Rattle.answers.specs.declared.Place.TheVariants.{Local, Tag, Remote}
use Rattle.answers.specs.declared.Refusal.{Refusal}
use Rattle.answers.specs.declared.Refusal.TheVariants.{KeyLength, SectorSize, OtherLength, UnknownSide, NoneFits, Lost, Clashing, VolumeShape, SectorNumber, StageOrder, ListLength, NoFrame, MapLength, ZeroHashKey}
use Rattle.answers.specs.declared.Found.{Found}
use Rattle.answers.specs.declared.Found.TheVariants.{Whole, Doubtful}
use Rattle.answers.specs.declared.side.Side.{Side}
use Rattle.answers.specs.declared.side.Side.TheVariants as S

-- ---- doubt at place 1 (local), 2 (tag) and 3 (remote)

abbrev pub doubt_number : M.Place → ℕ
doubt_number local = 0x81
doubt_number tag = 0x82
doubt_number remote = 0x83

-- no place in doubt is 0, for whole
abbrev pub found_number : Option M.Place → ℕ
found_number none = 0
found_number (some p) = doubt_number p

-- ---- the enums of the code

abbrev pub refusal_number : Refusal → ℕ
refusal_number KeyLength = 1
refusal_number SectorSize = 2
refusal_number OtherLength = 3
refusal_number UnknownSide = 4
refusal_number NoneFits = 5
refusal_number Lost = 6
refusal_number Clashing = 7
refusal_number VolumeShape = 8
refusal_number SectorNumber = 9
refusal_number StageOrder = 10
refusal_number ListLength = 11
refusal_number NoFrame = 12
refusal_number MapLength = 13
refusal_number ZeroHashKey = 14

-- the place that the code's enum names
abbrev pub place_named : Place → M.Place
place_named Local = local
place_named Tag = tag
place_named Remote = remote

-- what judging found where it did not refuse
abbrev pub finding_number : Found → ℕ
finding_number Whole = 0
finding_number (Doubtful p) = doubt_number (place_named p)

-- what is given where nothing is refused, by its number, and else the refusal's
abbrev pub result_number : {A : Type 0} → (A → ℕ) → Result A Refusal → ℕ
result_number number (Ok a) = number a
result_number number (Err r) = refusal_number r

abbrev pub judged_number : Result Found Refusal → ℕ
judged_number = result_number finding_number

abbrev pub done_number : Result (Unit {0}) Refusal → ℕ
done_number = result_number (λ _. 0)

-- the refusal of a check, if it refuses
abbrev pub done_option : {A : Type 0} → Result A Refusal → Option ℕ
done_option (Ok a) = none
done_option (Err r) = some (refusal_number r)

-- ---- the sides

abbrev pub side_number : Side → ℕ
side_number S.Local = 0
side_number S.Remote = 1

-- the side with a number, and refusal 4 for a number of none
abbrev pub side_numbered : ℕ → Result Side Refusal
side_numbered zero = Ok S.Local
side_numbered (suc zero) = Ok S.Remote
side_numbered (suc (suc n)) = Err UnknownSide
