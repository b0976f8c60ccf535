use native.Mathlib.Omega.{arith}
use Rattle.map.proofs.Counting.{counted_next, counted_all}
use Rattle.map.proofs.count_checked.Goals as goal

pub loop-word-preserved : goal.loop-word-preserved
loop-word-preserved c = counted_next c.loop-word.invariant (omega arith) _ _ (omega arith) c.ones_below-total.ensures

pub returns : goal.returns
returns c = counted_all c.loop-word.invariant (omega arith)
