-- The double ciphertext mode (document 01, "Sealing"): what a plaintext seals to. It stands alone: a block is a number below 2^128,
-- a sector a list of bytes. Assumes nothing: these are definitions.
use Rattle.std.specs.Prelude.{ℕ, zero, suc, ◌+◌, ◌/◌, List, [], ◌∷◌, ◌++◌, length, take, drop}
use Rattle.std.specs.Int.Bits.{bit_xor}
use Rattle.block.specs.Bytes.{from_bytes, to_bytes, blocks_of}
use Rattle.block.specs.Field.{double, mul, x⁻¹, 1⊕x⁻¹}
use Rattle.fips197.specs.Aes.{expand, cipher_number}
use Rattle.hash.specs.Brw.{brw}

-- ---- the key and the tweak

pub record Key : Type 0 where
  pub bytes : List ℕ

abbrev pub key_from : List ℕ → Key
key_from b = record { bytes = b }

-- the hash key h: the first 16 bytes
unfoldable pub hash_key : Key → ℕ
hash_key k = from_bytes (take 16 k.bytes)

-- the AES key K: the bytes behind it
unfoldable pub cipher_key : Key → List ℕ
cipher_key k = drop 16 k.bytes

-- the round keys of K; FIPS 197 has six rounds more than K has words
unfoldable pub round_keys : Key → List ℕ
round_keys k = let nk : ℕ = length (cipher_key k) / 4 in expand nk (nk + 6) (cipher_key k)

-- the tweak T: the volume's number and the address as a block, 8 bytes each, high byte first
unfoldable pub tweak : ℕ → ℕ → ℕ
tweak volume address = from_bytes (to_bytes 8 volume ++ to_bytes 8 address)

-- ---- the mode over a block cipher E

-- x^j · b
unfoldable pub times_x : ℕ → ℕ → ℕ
times_x zero b = b
times_x (suc j) b = double (times_x j b)

-- what f makes of the blocks vs and their numbers, which start at j, as bytes
unfoldable pub blockwise : (ℕ → ℕ → ℕ) → ℕ → List ℕ → List ℕ
blockwise f j [] = []
blockwise f j (v ∷ vs) = to_bytes 16 (f j v) ++ blockwise f (j + 1) vs

module _ (E : ℕ → ℕ) where
  -- the tag of the plaintext P under the hash key h: α is E(0)
  unfoldable pub tag_block : ℕ → ℕ → List ℕ → ℕ
  tag_block h T P = E (bit_xor (mul h (brw h (blocks_of P ++ (T ∷ [])))) (E 0))

  -- pad j under the tag g: β is E(1)
  unfoldable pub pad : ℕ → ℕ → ℕ
  pad g j = E (bit_xor g (times_x j (E 1)))

  -- block j of the two sides, of the plaintext block v; 3 is 1⊕x, and 2 is x
  unfoldable pub local_block : ℕ → ℕ → ℕ → ℕ
  local_block g j v = bit_xor (pad g j) (mul 3 v)

  unfoldable pub remote_block : ℕ → ℕ → ℕ → ℕ
  remote_block g j v = bit_xor (pad g j) (mul 2 v)

  -- the plaintext block that seals to block c of a side
  unfoldable pub open_local_block : ℕ → ℕ → ℕ → ℕ
  open_local_block g j c = mul 1⊕x⁻¹ (bit_xor (pad g j) c)

  unfoldable pub open_remote_block : ℕ → ℕ → ℕ → ℕ
  open_remote_block g j c = mul x⁻¹ (bit_xor (pad g j) c)

-- ---- a sealed sector

-- a list of bytes for each of the three places
pub record Triple : Type 0 where
  pub local : List ℕ
  pub tag : List ℕ
  pub remote : List ℕ

abbrev pub triple : List ℕ → List ℕ → List ℕ → Triple
triple l g r = record { local = l; tag = g; remote = r }

-- what P seals to, from its tag g
unfoldable pub sides : (ℕ → ℕ) → ℕ → List ℕ → Triple
sides E g P = record {
  local = blockwise (local_block E g) 1 (blocks_of P);
  tag = to_bytes 16 g;
  remote = blockwise (remote_block E g) 1 (blocks_of P);
}

-- what P seals to under the cipher E, the hash key h and the tweak T
unfoldable pub sealed_by : (ℕ → ℕ) → ℕ → ℕ → List ℕ → Triple
sealed_by E h T P = sides E (tag_block E h T P) P

-- what P seals to under a key and a volume's number, at an address
unfoldable pub sealed : Key → ℕ → ℕ → List ℕ → Triple
sealed k volume address P = sealed_by (cipher_number (round_keys k)) (hash_key k) (tweak volume address) P
