-- What the inner functions promise. Assumes nothing: these are definitions.
use Rattle.std.specs.Prelude.{◌≡◌, List, ℕ, zero, suc, ◌+◌, ◌*◌, ◌≤◌, length, Result, Ok, Err}
use Rattle.answers.specs.declared.Found.{Found}
use Rattle.answers.specs.declared.Refusal.{Refusal}
use Rattle.answers.specs.declared.Refusal.TheVariants.{NoFrame}
use Rattle.frame.specs.declared.Kind.{Kind}
use Rattle.frame.specs.declared.Kind.TheVariants.{Judge, Combine}
use Rattle.frame.specs.Frame.{beside}

-- the kind of a frame with this first byte, and refusal 12 for a byte of none
abbrev pub kind_numbered : ℕ → Result Kind Refusal
kind_numbered zero = Err NoFrame
kind_numbered (suc zero) = Ok Judge
kind_numbered (suc (suc zero)) = Ok Combine
kind_numbered (suc (suc (suc n))) = Err NoFrame

-- the frame f has two sectors of s bytes
abbrev pub Sectors : ℕ → List ℕ → Type 0
Sectors s f = (1 ≤ length f) × (length f ≡ beside f + 2 * s)

-- how many bytes of plaintext come with an answer about a sector of s bytes
abbrev pub plaintext_length : Result Found Refusal → ℕ → ℕ
plaintext_length (Ok found) s = s
plaintext_length (Err refusal) s = 0
