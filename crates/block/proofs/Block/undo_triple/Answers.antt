use Rattle.std.proofs.Common.{arith, shr_lt}
use lib.Bits.{xor_lt}
use Rattle.block.proofs.Block.undo_triple.Goals as goal

pub mask-requires-2 : goal.mask-requires-2
mask-requires-2 c = shr_lt 1 63 (xor_lt 64 c.prefix_xor.result c.mask.result (omega arith) (omega arith))
