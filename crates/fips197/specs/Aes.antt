-- AES encryption (FIPS 197, whose sections are named) for any number nk of words in the key and any number nr of rounds.
-- A byte is a number below 256, a word the number of four bytes, a state the list of its 16 bytes, column by column.
-- Assumes nothing: these are definitions.
use Rattle.std.specs.Prelude.{ℕ, zero, suc, ◌+◌, ◌-◌, ◌*◌, ◌/◌, ◌%◌, ◌^◌, cond, ◌&&◌, List, [], ◌∷◌, ◌++◌, map, ltb, eqb, length, get_or, take, drop}
use Rattle.std.specs.Int.Bits.{bit_xor}
use Rattle.block.specs.Bytes.{from_bytes, to_bytes, xor_bytes, part}
use Rattle.block.specs.Field.{times}

-- ---- 4: GF(2^8) modulo x^8 + x^4 + x^3 + x + 1

infixl 60 ◌⊕◌
infixl 70 ◌•◌
abbrev pub ◌⊕◌ : ℕ → ℕ → ℕ
a ⊕ b = bit_xor a b

-- x • b: shifted left by one bit within the byte, ⊕ 1b (hexadecimal) if the bit pushed out was 1
unfoldable pub xtime : ℕ → ℕ
xtime b = b * 2 % 256 ⊕ b / 128 * 0x1b

-- the product of b by the n low bits of a
unfoldable pub mul_bits : ℕ → ℕ → ℕ → ℕ
mul_bits zero a b = 0
mul_bits (suc n) a b = times (a % 2) b ⊕ mul_bits n (a / 2) (xtime b)

unfoldable pub ◌•◌ : ℕ → ℕ → ℕ
a • b = mul_bits 8 a b

-- b^2 • b^4 • .. • b^(2^n)
unfoldable pub squares : ℕ → ℕ → ℕ
squares zero b = 1
squares (suc n) b = let t : ℕ = b • b in t • squares n t

-- b^254, the inverse of b (4.4)
unfoldable pub inverse : ℕ → ℕ
inverse b = squares 7 b

-- ---- 5.1.1: SubBytes

-- a byte, rotated left by k bits
unfoldable pub rotate_left : ℕ → ℕ → ℕ
rotate_left k b = (b * 2 ^ k + b * 2 ^ k / 256) % 256

unfoldable pub affine : ℕ → ℕ
affine b = b ⊕ rotate_left 1 b ⊕ rotate_left 2 b ⊕ rotate_left 3 b ⊕ rotate_left 4 b ⊕ 0x63

unfoldable pub s_box : ℕ → ℕ
s_box b = affine (inverse b)

-- f 0, f 1, .., f (n - 1)
unfoldable pub tabulate : ℕ → (ℕ → ℕ) → List ℕ
tabulate zero f = []
tabulate (suc n) f = f 0 ∷ tabulate n (λ i. f (suc i))

-- the S-box as a table
unfoldable pub s_box_table : List ℕ
s_box_table = tabulate 256 s_box

unfoldable pub sub_bytes : List ℕ → List ℕ
sub_bytes s = map s_box s

-- ---- 5.1.2: ShiftRows

-- row r of column c, where columns count modulo 4
abbrev pub cell : List ℕ → ℕ → ℕ → ℕ
cell s r c = get_or s (r + 4 * (c % 4)) 0

-- the state whose column c is f c
abbrev pub by_column : (ℕ → List ℕ) → List ℕ
by_column f = f 0 ++ f 1 ++ f 2 ++ f 3

unfoldable pub shift_rows : List ℕ → List ℕ
shift_rows s = by_column (λ c. cell s 0 c ∷ cell s 1 (c + 1) ∷ cell s 2 (c + 2) ∷ cell s 3 (c + 3) ∷ [])

-- ---- 5.1.3: MixColumns

abbrev pub mix_column : ℕ → ℕ → ℕ → ℕ → List ℕ
mix_column a b c d =
    (2 • a ⊕ 3 • b ⊕ c ⊕ d)
    ∷ (a ⊕ 2 • b ⊕ 3 • c ⊕ d)
    ∷ (a ⊕ b ⊕ 2 • c ⊕ 3 • d)
    ∷ (3 • a ⊕ b ⊕ c ⊕ 2 • d)
    ∷ []

unfoldable pub mix_columns : List ℕ → List ℕ
mix_columns s = by_column (λ c. mix_column (cell s 0 c) (cell s 1 c) (cell s 2 c) (cell s 3 c))

-- ---- 5.1.4: AddRoundKey, with round key n of the expanded key w

unfoldable pub add_round_key : List ℕ → ℕ → List ℕ → List ℕ
add_round_key w n s = xor_bytes s (by_column (λ c. to_bytes 4 (get_or w (4 * n + c) 0)))

-- ---- 5.1: Cipher

-- the state s after the rounds 1 to n
unfoldable pub rounds : List ℕ → List ℕ → ℕ → List ℕ
rounds w s zero = s
rounds w s (suc n) = add_round_key w (suc n) (mix_columns (shift_rows (sub_bytes (rounds w s n))))

-- the last round mixes no columns
unfoldable pub cipher : ℕ → List ℕ → List ℕ → List ℕ
cipher nr w s = add_round_key w nr (shift_rows (sub_bytes (rounds w (add_round_key w 0 s) (nr - 1))))

-- how many rounds the expanded key w is for
abbrev pub rounds_of : List ℕ → ℕ
rounds_of w = length w / 4 - 1

-- the cipher of a block that is given as a number
unfoldable pub cipher_number : List ℕ → ℕ → ℕ
cipher_number w x = from_bytes (cipher (rounds_of w) w (to_bytes 16 x))

-- ---- 5.2: KeyExpansion

-- a list with its first k elements moved to the end
abbrev pub rotate : ℕ → List ℕ → List ℕ
rotate k l = drop k l ++ take k l

unfoldable pub rot_word : ℕ → ℕ
rot_word x = from_bytes (rotate 1 (to_bytes 4 x))

unfoldable pub sub_word : ℕ → ℕ
sub_word x = from_bytes (sub_bytes (to_bytes 4 x))

-- x^n
unfoldable pub xpow : ℕ → ℕ
xpow zero = 1
xpow (suc n) = xtime (xpow n)

unfoldable pub rcon : ℕ → ℕ
rcon j = from_bytes (xpow (j - 1) ∷ 0 ∷ 0 ∷ 0 ∷ [])

-- the word x before word i as it is added to word i - nk
unfoldable pub transform : ℕ → ℕ → ℕ → ℕ
transform nk i x =
    cond (eqb (i % nk) 0) (sub_word (rot_word x) ⊕ rcon (i / nk)) (cond (ltb 6 nk && eqb (i % nk) 4) (sub_word x) x)

unfoldable pub next_word : ℕ → List ℕ → ℕ → ℕ
next_word nk w i = get_or w (i - nk) 0 ⊕ transform nk i (get_or w (i - 1) 0)

unfoldable pub key_words : ℕ → List ℕ → List ℕ
key_words nk key = tabulate nk (λ i. from_bytes (part 4 i key))

-- the nk words ws and n words more
unfoldable pub extend_by : ℕ → List ℕ → ℕ → List ℕ
extend_by nk ws zero = ws
extend_by nk ws (suc n) = let w : List ℕ = extend_by nk ws n in w ++ (next_word nk w (nk + n) ∷ [])

-- the expanded key of nr rounds
unfoldable pub expand : ℕ → ℕ → List ℕ → List ℕ
expand nk nr key = extend_by nk (key_words nk key) (4 * (nr + 1) - nk)
