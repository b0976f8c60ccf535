use Rattle.std.proofs.Common.{arith}
use Rattle.text.proofs.Stretches.{stretch_within}
use Rattle.replay.proofs.replay.Goals as goal

pub slice_bounds-counted-end : goal.slice_bounds-counted-end
slice_bounds-counted-end g c = omega (arith, stretch_within c.args.input.now c.loop-at.at (omega arith))
