use Rattle.block.specs.Value.{value}
use Rattle.hash.proofs.PowersLaws.{Filled}
use Rattle.hash.proofs.powers.Given as goal

abbrev pub invariant-loop-i : goal.invariant-loop-i
invariant-loop-i l = Filled (value l.initial.v) l.i l.words (value l.v)
