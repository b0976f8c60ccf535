-- A round as the code does it: on four words, one a column, and by a table. Assumes nothing: these are definitions.
use Rattle.std.specs.Prelude.{ℕ, ◌≡◌, List, [], ◌∷◌, ◌++◌, get_or}
use Rattle.block.specs.Bytes.{from_bytes, to_bytes, xor_bytes}
use Rattle.fips197.specs.Aes.{◌•◌, s_box, mix_column, tabulate}
use Rattle.aes.specs.declared.columns.Columns.{Columns}

unfoldable pub state_of : Columns → List ℕ
state_of s = to_bytes 4 s.c0 ++ to_bytes 4 s.c1 ++ to_bytes 4 s.c2 ++ to_bytes 4 s.c3

-- row r of the column x, substituted
abbrev pub sub : ℕ → ℕ → ℕ
sub x r = s_box (get_or (to_bytes 4 x) r 0)

-- a column after SubBytes and ShiftRows, its rows from the columns a, b, c and d;
-- and the same after MixColumns and AddRoundKey, with the word k of the round key
unfoldable pub last_column : ℕ → ℕ → ℕ → ℕ → List ℕ
last_column a b c d = sub a 0 ∷ sub b 1 ∷ sub c 2 ∷ sub d 3 ∷ []

unfoldable pub round_column : ℕ → ℕ → ℕ → ℕ → ℕ → List ℕ
round_column k a b c d = xor_bytes (mix_column (sub a 0) (sub b 1) (sub c 2) (sub d 3)) (to_bytes 4 k)

-- each column of r is f of its number and of the columns of s, from that one on
abbrev pub EachColumn : (ℕ → ℕ → ℕ → ℕ → ℕ → List ℕ) → Columns → Columns → Type 0
EachColumn f s r =
    (to_bytes 4 r.c0 ≡ f 0 s.c0 s.c1 s.c2 s.c3)
    × (to_bytes 4 r.c1 ≡ f 1 s.c1 s.c2 s.c3 s.c0)
    × (to_bytes 4 r.c2 ≡ f 2 s.c2 s.c3 s.c0 s.c1)
    × (to_bytes 4 r.c3 ≡ f 3 s.c3 s.c0 s.c1 s.c2)

-- what the substituted byte b of row 0 adds to each row of its mixed column
abbrev pub mix_rows : ℕ → List ℕ
mix_rows b = 2 • b ∷ b ∷ b ∷ 3 • b ∷ []

unfoldable pub round_table : List ℕ
round_table = tabulate 256 (λ x. from_bytes (mix_rows (s_box x)))
