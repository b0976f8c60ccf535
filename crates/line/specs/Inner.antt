-- What printing promises. Assumes nothing: this is a definition.
use Rattle.std.specs.Prelude.{◌≡◌, List, ◌++◌, ℕ, ◌≤◌, length, drop}

-- the text stands at the front of the output, whose bytes behind it are as before; r counts it, and is at most m
abbrev pub Prints : List ℕ → List ℕ → List ℕ → ℕ → ℕ → Type 0
Prints text before after r m = (after ≡ text ++ drop r before) × (r ≡ length text) × (r ≤ m)
