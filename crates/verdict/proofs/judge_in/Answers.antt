use Rattle.std.proofs.Common.{arith}
use Rattle.block.specs.Value.{value}
use Rattle.verdict.proofs.Judging.{sum_whole}
use Rattle.verdict.proofs.judge_in.Goals as goal

pub returns-then-eq-2 : goal.returns-then-eq-2
returns-then-eq-2 c =
    let all = c.has_bytes.ensures in
    sum_whole c.args.keyed.now (value c.args.tweak) c.args.part.now all.local all.tag all.remote _ _ _ _ c.xor_bytes.ensures c.tag_block-tag.ensures c.transform.ensures c.eq.ensures _ _ (omega arith) (omega arith) c.load.ensures c.eq-then-eq.ensures
    c.if-eq.true c.if-eq-2.true c.args.out.now c.copy.ensures
