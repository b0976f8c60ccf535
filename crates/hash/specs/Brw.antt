-- BRW with key h over a list of blocks (document 01, "Hash"). Assumes nothing: these are definitions.
use Rattle.std.specs.Prelude.{ℕ, zero, suc, ◌-◌, ◌^◌, cond, List, [], ◌∷◌, leb, length, take, drop, get_or}
use Rattle.std.specs.Int.Bits.{bit_xor}
use Rattle.block.specs.Field.{mul, power}

-- the largest i up to n with 2 ^ i not above k, or 0
unfoldable pub log_up_to : ℕ → ℕ → ℕ
log_up_to zero k = 0
log_up_to (suc n) k = cond (leb (2 ^ suc n) k) (suc n) (log_up_to n k)

-- the exponent of the largest power of two not above k
unfoldable pub log : ℕ → ℕ
unfolding log_up_to
log k = log_up_to k k

-- four blocks or more, cut at Xt: t is the largest power of two not above their number, and `hash` stands for the hash of fewer blocks
unfoldable pub split : (List ℕ → ℕ) → ℕ → List ℕ → ℕ
unfolding log
split hash h xs =
    let i = log (length xs) in
    let t = 2 ^ i in
    bit_xor (mul (hash (take (t - 1) xs)) (bit_xor (power h i) (get_or xs (t - 1) 0))) (hash (drop t xs))

-- the cases by the number of blocks
unfoldable pub cases : (List ℕ → ℕ) → ℕ → List ℕ → ℕ
unfolding split
cases hash h [] = 0
cases hash h (x1 ∷ []) = x1
cases hash h (x1 ∷ x2 ∷ []) = bit_xor (mul x1 h) x2
cases hash h (x1 ∷ x2 ∷ x3 ∷ []) = bit_xor (mul (bit_xor h x1) (bit_xor (mul h h) x2)) x3
cases hash h (x1 ∷ x2 ∷ x3 ∷ x4 ∷ xs) = split hash h (x1 ∷ x2 ∷ x3 ∷ x4 ∷ xs)

-- the cases, taken n deep
unfoldable pub brw_in : ℕ → ℕ → List ℕ → ℕ
unfolding cases
brw_in zero h xs = 0
brw_in (suc n) h xs = cases (brw_in n h) h xs

-- as deep as there are blocks, which is enough (`recursion` in HashFacts)
unfoldable pub brw : ℕ → List ℕ → ℕ
unfolding brw_in
brw h xs = brw_in (length xs) h xs
