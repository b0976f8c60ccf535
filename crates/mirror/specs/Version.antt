-- A release's number as the C interface gives it. Of two releases the one with the greater major, then minor, then patch has the greater
-- number, while minor and patch are below 1,000.
use Rattle.std.specs.Prelude.{ℕ, ◌+◌, ◌*◌}

abbrev pub release : ℕ → ℕ → ℕ → ℕ
release major minor patch = major * 1000000 + minor * 1000 + patch
