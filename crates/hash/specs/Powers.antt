-- The powers h^(2^i), i from 0 to 8, each as two words, the high one first. Assumes nothing: these are definitions.
use Rattle.std.specs.Prelude.{◌≡◌, List, ℕ, ◌+◌, ◌*◌, ◌^◌, ◌<◌, get_or}
use Rattle.std.proofs.Props.{props}
use Rattle.block.specs.Field.{power}

-- the element in the words 2 i and 2 i + 1
unfoldable pub element_at : List ℕ → ℕ → ℕ
element_at p i = get_or p (2 * i) 0 * 2 ^ 64 + get_or p (2 * i + 1) 0

-- the key whose powers they are
abbrev pub key_of : List ℕ → ℕ
key_of p = element_at p 0

-- p holds the powers of its key
unfoldable pub Powers : List ℕ → Type 0
Powers p = (i : ℕ) → i < 9 → element_at p i ≡ power (key_of p) i

-- any two proofs of it are equal
pub Powers-prop : (p : List ℕ) → IsProp (Powers p)
unfolding Powers
Powers-prop p = hlevel props
