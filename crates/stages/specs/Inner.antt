-- What the inner functions answer and leave. Assumes nothing: these are definitions.
use Rattle.std.specs.Prelude.{List, [], ◌∷◌, ℕ, length}
use Rattle.block.specs.declared.Block.{Block}
use Rattle.block.specs.Value.{value}
use Rattle.mode.specs.declared.lent.Keyed.{Keyed}
use Rattle.mode.specs.Lent.{scheme_lent}
use Rattle.mode.specs.Scheme.{Place, local, tag, remote, on, Scheme}
use Rattle.mode.specs.Sealing.{Triple}
use Rattle.answers.specs.Rules.{first_of, settle}
use Rattle.history.specs.Answers.{answer_number}
use Rattle.history.specs.Volume.{Call, sector_of, write_all, late, writes, result}

abbrev pub one : Place → List Place
one p = p ∷ []

abbrev pub all_places : List Place
all_places = local ∷ tag ∷ remote ∷ []

-- ---- under a scheme S and a tweak T

-- the images after P's sealing is written to some places of sector i
unfoldable pub seal_into : Scheme → ℕ → ℕ → ℕ → List ℕ → List Place → Triple → Triple
seal_into S T s i P places v = write_all s i (on (S.sealed T P)) places v

-- a call on sector i that has passed the early checks: the number of its answer, and the images afterwards
unfoldable pub late_outcome : Scheme → ℕ → ℕ → ℕ → Triple → Call → ℕ × Triple
unfolding seal_into
late_outcome S T s i v c =
    let t = sector_of s i v in
    let written = writes s S T t c in
    settle (first_of (late S T t c)) (answer_number (result S T t c), seal_into S T s i written.plain written.places v) v

-- ---- the same with a prepared key and a tweak's block

abbrev pub seal_by : Keyed → Block → ℕ → List ℕ → List Place → Triple → Triple
seal_by keyed tweak i P places v = seal_into (scheme_lent keyed) (value tweak) (length P) i P places v

abbrev pub late_by : Keyed → Block → ℕ → ℕ → Triple → Call → ℕ × Triple
late_by keyed tweak s i v c = late_outcome (scheme_lent keyed) (value tweak) s i v c
