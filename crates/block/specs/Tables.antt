-- The two tables of a product that takes four bits at a step. Assumes nothing: these are definitions.
use Rattle.std.specs.Prelude.{◌≡◌, ℕ, ◌<◌, List, get_or, slice_index}
use Rattle.block.specs.declared.Block.{Block}
use Rattle.block.specs.Field.{mul}
use Rattle.block.specs.Value.{value}

-- the element at j of a table of sixteen
unfoldable pub multiple_at : List Block → ℕ → ℕ
multiple_at t j = value (get_or t j (record { hi = 0; lo = 0 }))

-- the element at j is j · b, for each j below n (used with n at most 16)
unfoldable pub Multiples : ℕ → ℕ → List Block → Type 0
unfolding multiple_at
Multiples n b t = (j : ℕ) → j < n → multiple_at t j ≡ mul j b

-- entry n is what n leaves when it is pushed out at the top: n · x^128, and x^128 is block 87 (hexadecimal)
unfoldable pub Reductions : List ℕ → Type 0
Reductions r = (n : ℕ) → n < 16 → slice_index r n ≡ mul 0x87 n
