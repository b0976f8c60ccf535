-- A side block by block, by what is done to it. Assumes nothing: these are definitions.
use Rattle.std.specs.Prelude.{List, ℕ}
use Rattle.std.specs.Int.Bits.{bit_xor}
use Rattle.block.specs.Bytes.{blocks_of}
use Rattle.block.specs.Field.{mul, x⁻¹, 1⊕x⁻¹}
use Rattle.fips197.specs.Aes.{cipher_number}
use Rattle.mode.specs.declared.Direction.{Direction}
use Rattle.mode.specs.declared.Direction.TheVariants.{SealLocal, SealRemote, OpenLocal, OpenRemote}
use Rattle.mode.specs.Sealing.{pad, blockwise}

-- from the pad p and the block v
abbrev pub transformed : Direction → ℕ → ℕ → ℕ
transformed SealLocal p v = bit_xor p (mul 3 v)
transformed SealRemote p v = bit_xor p (mul 2 v)
transformed OpenLocal p v = mul 1⊕x⁻¹ (bit_xor p v)
transformed OpenRemote p v = mul x⁻¹ (bit_xor p v)

-- the blocks of x, under the pads of the tag g with the round keys w
abbrev pub transformed_by : Direction → List ℕ → ℕ → List ℕ → List ℕ
transformed_by how w g x = blockwise (λ j v. transformed how (pad (cipher_number w) g j) v) 1 (blocks_of x)
