-- What the inner functions promise. Assumes nothing: these are definitions.
use Rattle.std.specs.Prelude.{◌≡◌, List, ℕ, length}
use Rattle.line.specs.Inner.{Prints}
use Rattle.input.specs.Lines.{Fed}
use Rattle.input.specs.Turn.{stored}

-- a buffer is fed: the store for a line, of which `used` bytes are held, and the output
abbrev pub Feeds : Fed → ℕ → List ℕ → ℕ → List ℕ → List ℕ → ℕ → Type 0
Feeds f used line printed before after m = (line ≡ stored f.rest) × (used ≡ length f.rest) × Prints f.printed before after printed m
