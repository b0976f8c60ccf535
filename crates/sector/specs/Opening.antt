-- Open and rebuild as one: what is found is alike, and what is written of it differs. Assumes nothing: these are definitions.
use Rattle.std.specs.Prelude.{List, ℕ}
use Rattle.mode.specs.Sealing.{Key, tweak}
use Rattle.mode.specs.Scheme.{on, Scheme, scheme}
use Rattle.verdict.specs.Verdict.{Side, place_of, other_side, side_of, opened}
use Rattle.sector.specs.declared.Wanted.{Wanted}
use Rattle.sector.specs.declared.Wanted.TheVariants.{Plaintext, Opposite}
use Rattle.sector.specs.Calls.{open_outcome, open_with}

-- what is written of the plaintext P that the side d and the tag gave
abbrev pub wanted_of : Wanted → Scheme → ℕ → Side → List ℕ → List ℕ
wanted_of Plaintext S T d P = P
wanted_of Opposite S T d P = on (S.sealed T P) (place_of (other_side d))

-- behind the checks, with the output before
abbrev pub opened_as : Wanted → Scheme → ℕ → Side → List ℕ → List ℕ → List ℕ → ℕ × List ℕ
opened_as wanted S T d x g out = open_outcome (wanted_of wanted S T d) (opened S T d g x) out

-- with the refusals 1, 14, 2, 3 and 4
abbrev pub open_as : Wanted → Key → ℕ → ℕ → ℕ → List ℕ → List ℕ → List ℕ → ℕ × List ℕ
open_as wanted k volume address d x g out = open_with (wanted_of wanted (scheme k) (tweak volume address) (side_of d)) k volume address d x g out
