-- What the program has read and written, by the bytes that its reader has left and those that its writer holds, where these are known. These
-- are definitions.
use Rattle.std.specs.Prelude.{◌≡◌, Bool, true, false, Some, None, List, [], ℕ, ◌≤◌, take, IfSome, codes}
use Rattle.std.specs.declared.option.Option.{Option}
use Rattle.std.specs.Io.KnownBytes.{Appends, Consumes, IsAtEnd, Keeps}
use Rattle.input.specs.Lines.{print_input, print_ended}
use Rattle.input.specs.Turn.{Read, failed, ended, gave, turned}
use Rattle.input.specs.declared.Next.{Next}
use Rattle.input.specs.declared.Next.TheVariants.{ReadOn, Ended}
use Rattle.frames.specs.declared.Failure.{Failure}
use Rattle.frames.specs.declared.Failure.TheVariants as F

-- ---- the whole run

-- the input came to its end, and every line of it is answered
abbrev pub AnswersAll : Option (List ℕ) → Option (List ℕ) → Option (List ℕ) → Option (List ℕ) → Type 0
AnswersAll left left' written written' = IsAtEnd left' × IfSome left (λ input. Appends written written' (print_input input))

-- of what was read, each line that had ended is answered
abbrev pub AnswersEnded : Option (List ℕ) → Option (List ℕ) → Option (List ℕ) → Option (List ℕ) → Type 0
AnswersEnded left left' written written' = (input : List ℕ) × Consumes left left' input × Appends written written' (print_ended input)

-- nothing but the front of the answers to what was read is written
abbrev pub AnswersPart : Option (List ℕ) → Option (List ℕ) → Option (List ℕ) → Option (List ℕ) → Type 0
AnswersPart left left' written written' = (input : List ℕ) × (n : ℕ) × Consumes left left' input × Appends written written' (take n (print_input input))

-- what turns that fail have written: that there were too many is no failure of a turn
abbrev pub AnswersTurns : Failure → Option (List ℕ) → Option (List ℕ) → Option (List ℕ) → Option (List ℕ) → Type 0
AnswersTurns F.Read left left' written written' = AnswersEnded left left' written written'
AnswersTurns (F.Write kind) left left' written written' = AnswersPart left left' written written'
AnswersTurns (F.TooManyReads turns) left left' written written' = ⊥

-- what a run that fails has written: only 2^64 − 1 turns are too many
abbrev pub AnswersUntil : Failure → Option (List ℕ) → Option (List ℕ) → Option (List ℕ) → Option (List ℕ) → Type 0
AnswersUntil F.Read left left' written written' = AnswersTurns F.Read left left' written written'
AnswersUntil (F.Write kind) left left' written written' = AnswersTurns (F.Write kind) left left' written written'
AnswersUntil (F.TooManyReads turns) left left' written written' = (18446744073709551615 ≤ turns) × AnswersEnded left left' written written'

-- ---- a turn

-- a read takes the bytes that it gives from the reader
abbrev pub Gives : Option (List ℕ) → Option (List ℕ) → Read → Type 0
Gives left left' failed = Keeps left left'
Gives left left' ended = Consumes left left' [] × IsAtEnd left'
Gives left left' (gave b) = Consumes left left' b

-- nothing but the front of the text is written
abbrev pub WritesPart : Option (List ℕ) → Option (List ℕ) → List ℕ → Type 0
WritesPart written written' text = (n : ℕ) × Appends written written' (take n text)

abbrev pub next_of : Bool → Next
next_of true = ReadOn
next_of false = Ended

-- a turn that does not fail, with `held` before of a line that has not ended and `held'` afterwards
abbrev pub Turns : List ℕ → List ℕ → Bool → Option (List ℕ) → Option (List ℕ) → Option (List ℕ) → Option (List ℕ) → Type 0
Turns held held' more left left' written written' =
    (r : Read) × Gives left left' r × (held' ≡ (turned held r).rest) × (next_of more ≡ (turned held r).next) × Appends written written' (turned held r).printed

-- the same, by what it answers: how many bytes of the line store are held, and none at the end
abbrev pub TurnsTo : Option ℕ → List ℕ → List ℕ → Option (List ℕ) → Option (List ℕ) → Option (List ℕ) → Option (List ℕ) → Type 0
TurnsTo (Some used) held line left left' written written' = Turns held (take used line) true left left' written written'
TurnsTo None held line left left' written written' = Turns held [] false left left' written written'

-- a turn that fails
abbrev pub Fails : Failure → List ℕ → Option (List ℕ) → Option (List ℕ) → Option (List ℕ) → Option (List ℕ) → Type 0
Fails F.Read held left left' written written' = Keeps left left' × Keeps written written'
Fails (F.Write kind) held left left' written written' = (r : Read) × Gives left left' r × WritesPart written written' (turned held r).printed
Fails (F.TooManyReads turns) held left left' written written' = ⊥

-- writing failed
abbrev pub IsWrite : Failure → Type 0
IsWrite F.Read = ⊥
IsWrite (F.Write kind) = Unit {0}
IsWrite (F.TooManyReads turns) = ⊥

-- ---- the messages

abbrev pub text_of : Failure → List ℕ
text_of F.Read = codes "cannot read"
text_of (F.Write kind) = codes "cannot write"
text_of (F.TooManyReads turns) = codes "stopped after too many reads"
