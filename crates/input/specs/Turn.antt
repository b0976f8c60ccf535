-- A turn of the program `frames`: what it does with what a read gave, and what a list of turns prints. Assumes nothing: these are
-- definitions. That the turns print what the whole input does is proved as `turns_whole`.
use Rattle.std.specs.Prelude.{◌≡◌, Bool, true, false, cond, List, [], ◌∷◌, ◌++◌, ℕ, zero, suc, ◌-◌, ℤ, pos, negsuc, length, take, drop, replicate}
use Rattle.input.specs.Lines.{Fed, fed, finished, print_input, print_ended}
use Rattle.input.specs.declared.Next.{Next}
use Rattle.input.specs.declared.Next.TheVariants.{ReadOn, Ended, Failed}
use Rattle.input.specs.declared.Outcome.{Outcome}

-- ---- a read

-- it failed, found the end of the input, or gave bytes
pub data Read : Type 0 where
  failed : Read
  ended : Read
  gave : List ℕ → Read

-- from the number that it answered and the buffer afterwards
unfoldable pub read_of : ℤ → List ℕ → Read
read_of (negsuc n) buffer = failed
read_of (pos zero) buffer = ended
read_of (pos (suc n)) buffer = gave (take (suc n) buffer)

-- ---- a turn

-- what is held afterwards of a line that has not ended, what is printed, and what comes next
pub record Turned : Type 0 where
  pub rest : List ℕ
  pub printed : List ℕ
  pub next : Next

-- with `line` held before
unfoldable pub turned : List ℕ → Read → Turned
turned line failed = record { rest = []; printed = []; next = Failed }
turned line ended = record { rest = []; printed = finished line; next = Ended }
turned line (gave b) = let r : Fed = fed line b in record { rest = r.rest; printed = r.printed; next = ReadOn }

-- the whole store for a line: what is held, and zeros behind it
unfoldable pub stored : List ℕ → List ℕ
stored rest = rest ++ replicate (16499 - length rest) 0

-- the function `turn`: its result, and the line store and the output afterwards
unfoldable pub turn_call : ℤ → List ℕ → List ℕ → ℕ → List ℕ → Outcome × List ℕ × List ℕ
turn_call got buffer line used out =
    let t : Turned = turned (take used line) (read_of got buffer) in (
      record { used = length t.rest; printed = length t.printed; next = t.next },
      stored t.rest,
      t.printed ++ drop (length t.printed) out,
    )

-- ---- one turn after another, as long as the program reads on

abbrev pub if_read_on : Next → List ℕ → List ℕ
if_read_on ReadOn p = p
if_read_on Ended p = []
if_read_on Failed p = []

-- what is printed of the output, where each read answered a number and left a buffer
unfoldable pub printed_by : List ℕ → ℕ → List ℕ → List (ℤ × List ℕ) → List ℕ
printed_by line used out [] = []
printed_by line used out ((got, buffer) ∷ reads) =
    let t : Outcome × List ℕ × List ℕ = turn_call got buffer line used out in
    take t.0.printed t.2 ++ if_read_on t.0.next (printed_by t.1 t.0.used t.2 reads)

-- what these reads gave
unfoldable pub reads_of : List (ℤ × List ℕ) → List Read
reads_of [] = []
reads_of ((got, buffer) ∷ reads) = read_of got buffer ∷ reads_of reads

-- the bytes up to the end or a failure, and whether the input came to its end
unfoldable pub input_of : List Read → List ℕ
input_of [] = []
input_of (failed ∷ rs) = []
input_of (ended ∷ rs) = []
input_of (gave b ∷ rs) = b ++ input_of rs

unfoldable pub ends : List Read → Bool
ends [] = false
ends (failed ∷ rs) = false
ends (ended ∷ rs) = true
ends (gave b ∷ rs) = ends rs

-- ---- the theorem

-- whatever reads give: up to the end of the input what the whole input prints, else what its ended lines do. Nothing is held at the start.
abbrev pub TurnsWhole : Type 0
TurnsWhole = (line out : List ℕ) (reads : List (ℤ × List ℕ)) →
    let rs : List Read = reads_of reads in printed_by line 0 out reads ≡ cond (ends rs) (print_input (input_of rs)) (print_ended (input_of rs))
