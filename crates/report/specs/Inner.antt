-- One more in a count, for the laws here. Assumes nothing: this is a definition.
use Rattle.std.specs.Prelude.{Bool, cond, ℕ, suc}

-- one more, if so
abbrev pub add_if : Bool → ℕ → ℕ
add_if b k = cond b (suc k) k
