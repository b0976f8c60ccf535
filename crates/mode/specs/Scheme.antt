-- What judging, mending and a volume's history rest on: a scheme seals, and its two sides can be opened. Assumes nothing: these are
-- definitions. The mode is lawful under every key of 32 bytes, for every size that a call accepts: proved as `dcm_lawful` and `sound`.
use Rattle.std.specs.Prelude.{◌≡◌, Bool, true, ◌&&◌, List, ℕ, ◌%◌, eqb, leb, length}
use Rattle.block.specs.Bytes.{Plain, from_bytes, blocks_of, xor_bytes}
use Rattle.fips197.specs.Aes.{cipher_number}
use Rattle.mode.specs.Sealing.{Key, Triple, hash_key, round_keys, blockwise, open_local_block, open_remote_block, sealed_by}

-- ---- places

-- the three places of a sector (document 01, "The verdict")
pub data Place : Type 0 where
  local tag remote : Place

abbrev pub on : Triple → Place → List ℕ
on t local = t.local
on t tag = t.tag
on t remote = t.remote

-- how many bytes a place of a sector of s bytes has
abbrev pub wide : ℕ → Place → ℕ
wide s local = s
wide s tag = 16
wide s remote = s

-- bytes in the three places of a sector of s bytes
pub record Sector (s : ℕ) (t : Triple) : Type 0 where
  pub places : (p : Place) → Plain (wide s p) (on t p)

-- ---- keys and sizes

unfoldable pub is_key : Key → Bool
is_key k = eqb (length k.bytes) 32

-- a multiple of 16 from 16 to 4,096
unfoldable pub is_size : ℕ → Bool
is_size s = leb 16 s && (leb s 4096 && eqb (s % 16) 0)

-- ---- schemes

-- `sealed T P` is what P seals to under the tweak T. `open_local g x` is the plaintext that the tag g and the local sector x give,
-- `open_remote g x` the one that the tag and the remote sector give.
pub record Scheme : Type 0 where
  pub sealed : ℕ → List ℕ → Triple
  pub open_local : List ℕ → List ℕ → List ℕ
  pub open_remote : List ℕ → List ℕ → List ℕ

-- for sectors of s bytes: opening undoes sealing; a side is what its opening seals to, if the tag is; local ⊕ remote is the plaintext
pub record Lawful (s : ℕ) (S : Scheme) : Type 0 where
  pub shape : (T : ℕ) (P : List ℕ) → Plain s P → Sector s (S.sealed T P)
  pub left : (T : ℕ) (P : List ℕ) → Plain s P → S.open_local (S.sealed T P).tag (S.sealed T P).local ≡ P
  pub right : (T : ℕ) (P : List ℕ) → Plain s P → S.open_remote (S.sealed T P).tag (S.sealed T P).remote ≡ P
  pub onto_left : (T : ℕ) (g x : List ℕ) → Plain 16 g → Plain s x → (S.sealed T (S.open_local g x)).tag ≡ g → (S.sealed T (S.open_local g x)).local ≡ x
  pub onto_right : (T : ℕ) (g x : List ℕ) → Plain 16 g → Plain s x → (S.sealed T (S.open_remote g x)).tag ≡ g → (S.sealed T (S.open_remote g x)).remote ≡ x
  pub sum : (T : ℕ) (P : List ℕ) → Plain s P → xor_bytes (S.sealed T P).local (S.sealed T P).remote ≡ P
  pub plain_local : (g x : List ℕ) → Plain 16 g → Plain s x → Plain s (S.open_local g x)
  pub plain_remote : (g x : List ℕ) → Plain 16 g → Plain s x → Plain s (S.open_remote g x)

-- the mode over the cipher E with the hash key h
unfoldable pub dcm : (ℕ → ℕ) → ℕ → Scheme
dcm E h = record {
  sealed = sealed_by E h;
  open_local = λ g x. blockwise (open_local_block E (from_bytes g)) 1 (blocks_of x);
  open_remote = λ g x. blockwise (open_remote_block E (from_bytes g)) 1 (blocks_of x);
}

-- the mode under a key
unfoldable pub scheme : Key → Scheme
scheme k = dcm (cipher_number (round_keys k)) (hash_key k)

-- schemes that are lawful under every key of 32 bytes, for every size that a call accepts
pub record Sound (schemes : Key → Scheme) : Type 0 where
  pub lawful : (k : Key) (s : ℕ) → is_key k ≡ true → is_size s ≡ true → Lawful s (schemes k)
