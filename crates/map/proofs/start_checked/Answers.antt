use native.Mathlib.Omega.{arith}
use Rattle.map.proofs.Starting.{filled_next}
use Rattle.map.proofs.start_checked.Goals as goal

pub loop-word-preserved : goal.loop-word-preserved
loop-word-preserved c = filled_next c.loop-word.invariant (omega arith) _ _ (omega arith) c.low_ones.ensures
