-- Hexadecimal digits in ASCII, and the bytes that they stand for. Assumes nothing: these are definitions.
use Rattle.std.specs.Prelude.{Bool, true, ◌&&◌, ◌||◌, cond, List, [], ◌∷◌, ℕ, ◌+◌, ◌*◌, ◌-◌, leb}

-- whether x lies from a to b
abbrev pub between : ℕ → ℕ → ℕ → Bool
between a b x = leb a x && leb x b

-- 0 to 9, A to F or a to f
unfoldable pub is_digit : ℕ → Bool
is_digit c = between 48 57 c || (between 65 70 c || between 97 102 c)

unfoldable pub digit_value : ℕ → ℕ
digit_value c = cond (leb c 57) (c - 48) (cond (leb c 70) (c - 55) (c - 87))

unfoldable pub all_digits : List ℕ → Bool
all_digits [] = true
all_digits (c ∷ cs) = is_digit c && all_digits cs

-- the bytes that pairs of digits stand for
unfoldable pub decode : List ℕ → List ℕ
decode [] = []
decode (a ∷ []) = []
decode (a ∷ b ∷ cs) = (digit_value a * 16 + digit_value b) ∷ decode cs
