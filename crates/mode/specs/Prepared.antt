-- What a call works out once of its key and lends on. Assumes nothing: these are definitions.
use Rattle.std.specs.Prelude.{◌≡◌, List, ℕ, ◌≤◌, length}
use Rattle.block.specs.declared.Block.{Block}
use Rattle.block.specs.Value.{value}
use Rattle.fips197.specs.Aes.{cipher_number}
use Rattle.aes.specs.Columns.{round_table}
use Rattle.hash.specs.Powers.{key_of, Powers}
use Rattle.mode.specs.Scheme.{Scheme, dcm}
use Rattle.mode.specs.Sealing.{Key, hash_key, round_keys}

-- ---- what the inner functions need: values that belong together

-- for the pads of a side: the table t, the round keys w, and the block b, which is E(1)
pub record PadsReady (t w : List ℕ) (b : Block) : Type 0 where
  pub table : t ≡ round_table
  pub rounds : 8 ≤ length w
  pub beta : value b ≡ cipher_number w 1

-- for a tag besides: the powers of the hash key, and the block a, which is E(0)
pub record KeyReady (t w powers : List ℕ) (a b : Block) : Type 0 where
  pub pads : PadsReady t w b
  pub are_powers : Powers powers
  pub alpha : value a ≡ cipher_number w 0

-- ---- whose they are

-- of the key k
pub record PreparedFor (k : Key) (t w powers : List ℕ) (a b : Block) : Type 0 where
  pub round_keys_same : w ≡ round_keys k
  pub hash_key_same : key_of powers ≡ hash_key k
  pub ready : KeyReady t w powers a b

-- the mode under the round keys w and the powers of the hash key
abbrev pub scheme_of : List ℕ → List ℕ → Scheme
scheme_of w powers = dcm (cipher_number w) (key_of powers)
