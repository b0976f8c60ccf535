-- Bits kept in 64-bit words: bit i is bit i mod 64, lowest first, of word i / 64. Assumes nothing: these are definitions.
-- `BitsFacts`, at the end, states what is proved of them, as `bits_facts`.
use Rattle.std.specs.Prelude.{◌≡◌, Bool, true, false, List, [], ◌∷◌, ℕ, zero, suc, ◌+◌, ◌*◌, ◌/◌, ◌%◌, ◌^◌, ◌<◌, eqb, length, get_or, set, replicate}

-- digit k of a word in base 2, lowest first
unfoldable pub digit : ℕ → ℕ → ℕ
digit zero w = w % 2
digit (suc k) w = digit k (w / 2)

-- the word with b for its digit k
unfoldable pub put_digit : ℕ → ℕ → ℕ → ℕ
put_digit zero b w = w / 2 * 2 + b
put_digit (suc k) b w = put_digit k b (w / 2) * 2 + w % 2

abbrev pub num : Bool → ℕ
num true = 1
num false = 0

-- each word has 64 bits
abbrev pub Words : List ℕ → Type 0
Words [] = Unit {0}
Words (w ∷ ws) = (w < 2 ^ 64) × Words ws

-- is bit i set?
unfoldable pub bit : ℕ → List ℕ → Bool
bit i m = eqb (digit (i % 64) (get_or m (i / 64) 0)) 1

-- the words with b for bit i
unfoldable pub mark : ℕ → Bool → List ℕ → List ℕ
mark i b m = set m (i / 64) (put_digit (i % 64) (num b) (get_or m (i / 64) 0))

-- ---- what is proved

pub record BitsFacts : Type 0 where
  -- bit i is bit i mod 64, lowest first, of word i / 64
  pub by_division : (i : ℕ) (m : List ℕ) → bit i m ≡ eqb (get_or m (i / 64) 0 / 2 ^ (i % 64) % 2) 1
  pub of_zeros : (n i : ℕ) → bit i (replicate n 0) ≡ false
  -- marking changes that bit and no other, and leaves as many words of 64 bits
  pub marked : (i : ℕ) (b : Bool) (m : List ℕ) → i / 64 < length m → bit i (mark i b m) ≡ b
  pub others_stay : (j i : ℕ) (b : Bool) (m : List ℕ) → (j ≡ i → ⊥) → bit j (mark i b m) ≡ bit j m
  pub length_stays : (i : ℕ) (b : Bool) (m : List ℕ) → length (mark i b m) ≡ length m
  pub words_stay : (i : ℕ) (b : Bool) (m : List ℕ) → Words m → Words (mark i b m)
  -- words are known by their bits
  pub by_bits : (m k : List ℕ) → Words m → Words k → length m ≡ length k → ((i : ℕ) → bit i m ≡ bit i k) → m ≡ k
