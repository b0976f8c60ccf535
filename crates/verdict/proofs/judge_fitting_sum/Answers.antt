use Rattle.block.specs.Value.{value}
use Rattle.verdict.proofs.Judging.{sum_only}
use Rattle.verdict.proofs.judge_fitting_sum.Goals as goal

pub returns : goal.returns
returns c =
    let all = c.has_bytes.ensures in
    let left = c.opens-from_local.ensures in
    let right = c.opens-from_remote.ensures in
    sum_only c.args.keyed.now (value c.args.tweak) c.args.part.now all.local all.tag all.remote c.args.out.now c.args.sum.now c.requires.2 c.copy.ensures c.if-from_local.false left.has_tag left.opened c.if-from_remote.false right.has_tag right.opened
