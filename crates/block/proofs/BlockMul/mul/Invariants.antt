use Rattle.std.proofs.Common.{◌≤◌}
use Rattle.block.proofs.Product.{Chain}
use Rattle.block.proofs.BlockMul.mul.Given as goal

abbrev pub invariant-loop-turn : goal.invariant-loop-turn
invariant-loop-turn l = (l._turn ≤ 16) × Chain l.t l.initial.u l._turn l.p l.u × Chain l.t l.initial.v l._turn l.q l.v
