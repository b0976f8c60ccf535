-- What is prepared of a key is the mode under that key. Assumes nothing.
use mathlib.Core.Path.{◌≡◌, ap₂}
use mathlib.Core.List.{List}
use Prim.Native.Nat.{ℕ}
use Rattle.block.specs.declared.Block.{Block}
use Rattle.fips197.specs.Aes.{cipher_number}
use Rattle.mode.specs.Prepared.{PreparedFor, scheme_of}
use Rattle.mode.specs.Scheme.{dcm, scheme}
use Rattle.mode.specs.Sealing.{Key}

pub scheme_is : {k : Key} {t w p : List ℕ} {alpha beta : Block} → PreparedFor k t w p alpha beta → scheme_of w p ≡ scheme k
unfolding scheme
scheme_is e = ap₂ (λ (u : List ℕ) (h : ℕ). dcm (cipher_number u) h) e.round_keys_same e.hash_key_same
