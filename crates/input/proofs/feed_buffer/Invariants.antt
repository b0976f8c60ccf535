use Prim.Native.Nat.{◌-◌}
use lib.ListN.{length}
use Rattle.input.proofs.Stretches.{SoFar}
use Rattle.input.proofs.feed_buffer.Given as goal

abbrev pub invariant-loop-end : goal.invariant-loop-end
invariant-loop-end l = SoFar l.buffer l.initial.line l.used l.initial.out l.at l.end l.size l.printed l.line l.out

abbrev pub decreases-loop-end : goal.decreases-loop-end
decreases-loop-end l = length l.buffer - l.end
