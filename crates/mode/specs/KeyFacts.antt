-- What the definitions of Sealing.antt come to for document 01's keys: one statement, proved as `key_facts`.
use Rattle.std.specs.Prelude.{◌≡◌, true, List, ℕ, ◌*◌, length, take, replicate}
use Rattle.block.specs.Bytes.{to_bytes}
use Rattle.block.specs.declared.Block.{Block}
use Rattle.fips197.specs.Aes.{expand, rounds_of, cipher_number}
use Rattle.mode.specs.Sealing.{Key, key_from, hash_key, cipher_key, round_keys, tweak, tag_block}
use Rattle.mode.specs.Scheme.{is_key, scheme}
use Rattle.mode.specs.Prepared.{PreparedFor, scheme_of}

-- for an example: a key, and as a number the tag of `sealed` for 16 zeros at address 0 of volume 0, with the round keys w in place of
-- the key's own
abbrev pub some_key : Key
some_key = key_from (to_bytes 32 0x000102030405060708090a0b0c0d0e0f101112131415161718191a1b1c1d1e1f)

abbrev pub tag_under : List ℕ → ℕ
tag_under w = tag_block (cipher_number w) (hash_key some_key) (tweak 0 0) (replicate 16 0)

pub record KeyFacts : Type 0 where
  -- K has 16 bytes
  pub sixteen : (k : Key) → is_key k ≡ true → length (cipher_key k) ≡ 16
  -- its round keys are those of AES-128, four words expanded for ten rounds, and the cipher does so many with them
  pub aes_128 : (k : Key) → is_key k ≡ true → round_keys k ≡ expand 4 10 (cipher_key k)
  pub ten : (k : Key) → is_key k ≡ true → rounds_of (round_keys k) ≡ 10
  -- they are eleven, of four words each
  pub eleven : (k : Key) → is_key k ≡ true → length (round_keys k) ≡ 11 * 4
  -- what is worked out under round keys w and powers p that are those of a key is the mode under that key
  pub handed_down : (k : Key) {t w p : List ℕ} {alpha beta : Block} → PreparedFor k t w p alpha beta → scheme_of w p ≡ scheme k
  -- other round keys give another tag: the key's own, then the expansion of its other half, zeros, and all but the last give four
  -- numbers, no two of which are equal
  pub own : tag_under (round_keys some_key) ≡ 0x0fb8fbf30cd78a0d7f1331b583e2c66d
  pub other_half : tag_under (expand 4 10 (take 16 some_key.bytes)) ≡ 0xaf9d9926f7dac87192b1c4143ad98958
  pub zeros : tag_under (replicate 44 0) ≡ 0xfdfdfdfdfdfdfdfdfdfdfdfdfdfdfdfd
  pub one_short : tag_under (take 40 (round_keys some_key)) ≡ 0xf8cab1a5109fa392981969b1dc33b411
