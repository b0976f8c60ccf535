use Rattle.std.proofs.Common.{arith}
use Rattle.block.proofs.Lists.{xor_filled}
use Rattle.block.proofs.xor_bytes.Goals as goal

pub returns : goal.returns
returns c =
    let a = c.args in
    let l = c.loop-i in
    xor_filled a.a.now a.b.now l.out (omega arith) l.invariant.0 (λ k h. l.invariant.1 k (omega arith))
