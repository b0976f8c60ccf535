-- The number that two 64-bit words hold. Assumes nothing: these are definitions.
use Rattle.std.specs.Prelude.{ℕ, ◌+◌, ◌*◌, ◌^◌}
use Rattle.block.specs.declared.Block.{Block}

unfoldable pub value : Block → ℕ
value b = b.hi * 2 ^ 64 + b.lo
