use Rattle.std.proofs.Common.{ap, ◌∙◌, arith}
use Rattle.block.specs.Field.{mul}
use Rattle.block.specs.Value.{value}
use Rattle.block.proofs.Product.{step_words}
use Rattle.block.proofs.step.Goals as goal

pub returns : goal.returns
unfolding value
returns c =
    let s = c.args.s in
    let m = c.args.m in
    step_words s.hi s.lo c.reduction.result m.hi m.lo (omega arith) (omega arith) (omega arith)
    (c.reduction.ensures ∙ ap (mul 0x87) c.top_four-out.ensures)
