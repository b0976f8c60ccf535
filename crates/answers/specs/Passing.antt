-- What the checks of a call show to the functions behind them. Assumes nothing: this is a definition.
use Rattle.std.specs.Prelude.{◌≡◌, ℕ, ◌≤◌, ◌%◌}

-- lengths that pass the checks: a sector of s bytes, two more lengths, and a tag's
pub record Sizes (s x y g : ℕ) : Type 0 where
  pub blocks : s % 16 ≡ 0
  pub most : s ≤ 4096
  pub first : x ≡ s
  pub second : y ≡ s
  pub tag_size : g ≡ 16
