-- What the tweak of Sealing.antt comes to (change request S-2): one statement, proved as `tweak_facts`.
use Rattle.std.specs.Prelude.{◌≡◌, List, [], ◌∷◌, ◌++◌, ℕ, ◌^◌, ◌<◌, replicate}
use Rattle.std.specs.Int.Bits.{bit_xor}
use Rattle.block.specs.Bytes.{from_bytes, to_bytes, blocks_of}
use Rattle.block.specs.Field.{mul}
use Rattle.fips197.specs.Aes.{cipher_number}
use Rattle.hash.specs.Brw.{brw}
use Rattle.mode.specs.Sealing.{Key, Triple, hash_key, round_keys, tweak, sealed_by, sealed}

-- document 01's tweak, before there were numbers: the address as a block, its upper 8 bytes zero
abbrev pub tweak_before : ℕ → ℕ
tweak_before address = from_bytes (replicate 8 0 ++ to_bytes 8 address)

-- and what P sealed to
abbrev pub sealed_before : Key → ℕ → List ℕ → Triple
sealed_before k address P = sealed_by (cipher_number (round_keys k)) (hash_key k) (tweak_before address) P

pub record TweakFacts : Type 0 where
  -- its 16 bytes are the number's 8 and then the address's 8
  pub halves : (volume address : ℕ) → volume < 2 ^ 64 → address < 2 ^ 64 → to_bytes 16 (tweak volume address) ≡ to_bytes 8 volume ++ to_bytes 8 address
  -- the tag is worked out over all of it (document 01, "Sealing")
  pub in_the_tag : (k : Key) (volume address : ℕ) (P : List ℕ) → let E : ℕ → ℕ = cipher_number (round_keys k) in
      (sealed k volume address P).tag
      ≡ to_bytes 16 (E (bit_xor (mul (hash_key k) (brw (hash_key k) (blocks_of P ++ (from_bytes (to_bytes 8 volume ++ to_bytes 8 address) ∷ [])))) (E 0)))
  -- number 0 gives the block of before, so every sealing under it is the one of before
  pub number_0 : (address : ℕ) → tweak 0 address ≡ tweak_before address
  pub seals_as_before : (k : Key) (address : ℕ) (P : List ℕ) → sealed k 0 address P ≡ sealed_before k address P
  -- another number or another address gives another tweak
  pub one_pair : (volume address volume' address' : ℕ) → volume < 2 ^ 64 → address < 2 ^ 64 → volume' < 2 ^ 64 → address' < 2 ^ 64
      → tweak volume address ≡ tweak volume' address' → (volume ≡ volume') × (address ≡ address')
