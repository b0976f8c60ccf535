-- What the chains that are timed work out. Assumes nothing: these are definitions.
use Rattle.std.specs.Prelude.{ℕ, zero, suc, ◌-◌, ◌*◌, ◌/◌, ◌%◌, ◌^◌, List, [], ◌∷◌, ◌++◌, length, take, drop}
use Rattle.std.specs.Int.Bits.{bit_xor}
use Rattle.block.specs.Bytes.{from_bytes, blocks_of}
use Rattle.block.specs.Field.{mul}
use Rattle.hash.specs.Brw.{brw}

-- f, n times
unfoldable pub iterate : ℕ → (ℕ → ℕ) → ℕ → ℕ
iterate zero f x = x
iterate (suc n) f x = iterate n f (f x)

-- the ⊕ of the two words of a block
unfoldable pub folded : ℕ → ℕ
folded x = bit_xor (x / 2 ^ 64) (x % 2 ^ 64)

abbrev pub product : ℕ → ℕ → ℕ
product b x = mul x b

-- where the last whole block of the bytes xs begins
abbrev pub last_at : List ℕ → ℕ
last_at xs = 16 * (length xs / 16 - 1)

-- the hash of the blocks of xs, with x added to the last of them
abbrev pub hashed : ℕ → List ℕ → ℕ → ℕ
hashed h xs x =
    brw h (blocks_of (take (last_at xs) xs) ++ (bit_xor (from_bytes (take 16 (drop (last_at xs) xs))) x ∷ []))
