-- What the key's rules come to, whatever rules stand behind them (change request S-7): one statement, proved as `keys_refused`.
use Rattle.std.specs.Prelude.{◌≡◌, ◌↔◌, true, false, List, ◌++◌, take, replicate}
use Rattle.std.proofs.Math.Option.{some}
use Rattle.mode.specs.Sealing.{Key}
use Rattle.mode.specs.Scheme.{is_key}
use Rattle.answers.specs.Rules.{Rule, first_of, is_zero_hash, key_rules}

pub record KeysRefused : Type 0 where
  -- the hash key is zero exactly if its 16 bytes are
  pub zero_bytes : (k : Key) → is_key k ≡ true → (is_zero_hash k ≡ true) ↔ (take 16 k.bytes ≡ replicate 16 0)
  -- 1 for another length, whatever the bytes are
  pub another_length : (k : Key) (rest : List Rule) → is_key k ≡ false → first_of (key_rules k ++ rest) ≡ some 1
  -- 14 for 32 bytes with a hash key of zero, whatever else would be refused
  pub zero_hash : (k : Key) (rest : List Rule) → is_key k ≡ true → is_zero_hash k ≡ true → first_of (key_rules k ++ rest) ≡ some 14
  -- and no other key is refused: what stands behind decides
  pub goes_on : (k : Key) (rest : List Rule) → is_key k ≡ true → is_zero_hash k ≡ false → first_of (key_rules k ++ rest) ≡ first_of rest
