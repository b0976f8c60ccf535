use Rattle.std.proofs.Common.{arith, ext_get_or}
use Rattle.verdict.proofs.copy.Goals as goal

pub returns : goal.returns
returns c = let l = c.loop-i in ext_get_or 0 l.to c.args.from.now l.invariant.0 (λ k h. l.invariant.1 k (omega arith))
