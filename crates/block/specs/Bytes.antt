-- Lists of bytes: as numbers, as blocks, and in parts (document 01, "Blocks and field"). A byte is a number below 256.
-- Assumes nothing: these are definitions.
use Rattle.std.specs.Prelude.{◌≡◌, ℕ, zero, suc, ◌+◌, ◌*◌, ◌/◌, ◌%◌, ◌<◌, Bool, true, false, ◌&&◌, List, [], ◌∷◌, ◌++◌, length, take, drop, ◌==◌, bit_xor}

-- ---- bytes

-- every element is a byte
abbrev pub Bytes : List ℕ → Type 0
Bytes [] = Unit {0}
Bytes (x ∷ xs) = (x < 256) × Bytes xs

-- P is a list of s bytes
pub record Plain (s : ℕ) (P : List ℕ) : Type 0 where
  pub long : length P ≡ s
  pub bytes : Bytes P

-- ⊕ of two lists, byte by byte, as long as the shorter
abbrev pub xor_bytes : List ℕ → List ℕ → List ℕ
xor_bytes [] ys = []
xor_bytes (x ∷ xs) [] = []
xor_bytes (x ∷ xs) (y ∷ ys) = bit_xor x y ∷ xor_bytes xs ys

-- whether two lists are equal
unfoldable pub same : List ℕ → List ℕ → Bool
same [] [] = true
same [] (y ∷ ys) = false
same (x ∷ xs) [] = false
same (x ∷ xs) (y ∷ ys) = x == y && same xs ys

-- ---- numbers, the first byte the most significant

-- the number whose digits to the base 256 are those of s and then the bytes xs
unfoldable pub number : ℕ → List ℕ → ℕ
number s [] = s
number s (x ∷ xs) = number (s * 256 + x) xs

unfoldable pub from_bytes : List ℕ → ℕ
unfolding number
from_bytes xs = number 0 xs

-- the k low digits of n
unfoldable pub to_bytes : ℕ → ℕ → List ℕ
to_bytes zero n = []
to_bytes (suc k) n = to_bytes k (n / 256) ++ (n % 256 ∷ [])

-- ---- blocks of 16 bytes

-- the first n blocks, as numbers
unfoldable pub blocks : ℕ → List ℕ → List ℕ
blocks zero xs = []
blocks (suc n) xs = from_bytes (take 16 xs) ∷ blocks n (drop 16 xs)

-- the blocks of a list of bytes
unfoldable pub blocks_of : List ℕ → List ℕ
blocks_of xs = blocks (length xs / 16) xs

-- ---- parts of w bytes

-- part i of a list
unfoldable pub part : ℕ → ℕ → List ℕ → List ℕ
part w i l = take w (drop (i * w) l)

-- the list with b for its part i
unfoldable pub patch : ℕ → ℕ → List ℕ → List ℕ → List ℕ
patch w i b l = take (i * w) l ++ (b ++ drop (i * w + w) l)
