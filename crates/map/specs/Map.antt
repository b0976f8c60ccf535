-- A map of suspect sectors (change request S-4): one bit a sector, in 64-bit words as `bit` has them; a set bit means suspect. What a
-- started map is, how many suspects a map has, and the two calls on a map alone. Assumes nothing: these are definitions.
-- `MapFacts`, at the end, states what is proved of them, as `map_facts`.
use Rattle.std.specs.Prelude.{◌≡◌, List, [], ◌∷◌, ℕ, zero, suc, ◌+◌, ◌-◌, ◌*◌, ◌^◌, ◌≤◌, ◌<◌, min, ltb, length}
use Rattle.std.proofs.Math.Option.{none, some}
use Rattle.bits.specs.Bits.{num, Words, bit}
use Rattle.answers.specs.Rules.{first_of, settle, map_words, count_and_map_rules}

-- ---- a started map

-- so many words, the n lowest bits set and the others clear
abbrev pub fill : ℕ → ℕ → List ℕ
fill zero n = []
fill (suc w) n = (2 ^ min 64 n - 1) ∷ fill w (n - 64)

-- the map of n sectors with all n bits set and those past n clear
unfoldable pub started : ℕ → List ℕ
started n = fill (map_words n) n

-- ---- suspects

-- how many of the bits 0 to n - 1 are set
unfoldable pub suspects : ℕ → List ℕ → ℕ
suspects zero m = 0
suspects (suc i) m = suspects i m + num (bit i m)

-- ---- the calls: the number of the answer, and the map or the count afterwards

-- starts the map m
unfoldable pub start_outcome : ℕ → List ℕ → ℕ × List ℕ
start_outcome n m = settle (first_of (count_and_map_rules n (length m))) (0, started n) m

-- gives the number of suspects in the map m, where `before` stands
unfoldable pub count_outcome : ℕ → List ℕ → ℕ → ℕ × ℕ
count_outcome n m before = settle (first_of (count_and_map_rules n (length m))) (0, suspects n m) before

-- ---- what is proved

pub record MapFacts : Type 0 where
  -- as many words as n bits need: room for all, and none to spare
  pub room : (n : ℕ) → n ≤ map_words n * 64
  pub no_more : (n w : ℕ) → n ≤ w * 64 → map_words n ≤ w
  -- a started map has that many words of 64 bits, the n bits set and those past n clear; and it is the only such map
  pub started_length : (n : ℕ) → length (started n) ≡ map_words n
  pub started_words : (n : ℕ) → Words (started n)
  pub started_bit : (n i : ℕ) → bit i (started n) ≡ ltb i n
  pub started_only : (n : ℕ) (m : List ℕ) → Words m → length m ≡ map_words n → ((i : ℕ) → bit i m ≡ ltb i n) → m ≡ started n
  -- a started map has n suspects, and bits past n do not count
  pub all_suspect : (n : ℕ) → suspects n (started n) ≡ n
  pub by_bits_below : (n : ℕ) (m k : List ℕ) → ((i : ℕ) → i < n → bit i m ≡ bit i k) → suspects n m ≡ suspects n k
  -- the two calls refuse 8 for n, then 13 for the map, and change nothing then
  pub start_refuses : (n : ℕ) (m : List ℕ) (k : ℕ) → first_of (count_and_map_rules n (length m)) ≡ some k → start_outcome n m ≡ (k, m)
  pub starts : (n : ℕ) (m : List ℕ) → first_of (count_and_map_rules n (length m)) ≡ none → start_outcome n m ≡ (0, started n)
  pub count_refuses : (n : ℕ) (m : List ℕ) (before k : ℕ) → first_of (count_and_map_rules n (length m)) ≡ some k → count_outcome n m before ≡ (k, before)
  pub counts : (n : ℕ) (m : List ℕ) (before : ℕ) → first_of (count_and_map_rules n (length m)) ≡ none → count_outcome n m before ≡ (0, suspects n m)
