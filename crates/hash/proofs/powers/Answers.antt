use native.Mathlib.Omega.{arith}
use Rattle.block.specs.Value.{value}
use Rattle.hash.proofs.PowersLaws.{filled_start, filled_next}
use Rattle.hash.proofs.powers.Goals as goal

pub loop-i-init : goal.loop-i-init
unfolding value
loop-i-init c = filled_start c.args.h.hi c.args.h.lo

pub loop-i-preserved : goal.loop-i-preserved
unfolding value
loop-i-preserved c = let l = c.loop-i in filled_next _ l.i l.words _ _ _ (omega arith) (omega arith) l.invariant c.square-v.ensures
