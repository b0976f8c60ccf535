use native.Mathlib.Omega.{arith}
use Rattle.line.proofs.Digits.{encoding_turn}
use Rattle.line.proofs.encode.Goals as goal

pub loop-i-preserved : goal.loop-i-preserved
loop-i-preserved c = encoding_turn c.args.bytes.now c.args.out.now c.loop-i.out c.loop-i.i c.requires c.loop-i.invariant c.digit.result c.digit-in-loop-i.result (omega arith) c.digit.ensures c.digit-in-loop-i.ensures
