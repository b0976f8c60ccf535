use Rattle.std.proofs.Common.{refl, arith}
use Rattle.block.specs.Field.{times, double, horner, mul}
use Rattle.block.specs.Tables.{Reductions}
use Rattle.block.proofs.Tables.{are_reductions}
use Rattle.block.proofs.reduction.Goals as goal

pub returns : goal.returns
unfolding Reductions mul horner double times
returns c = are_reductions _ refl c.args.n (omega arith)
