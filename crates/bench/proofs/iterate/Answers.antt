use Rattle.std.proofs.Common.{sym, ap, ◌∙◌}
use Rattle.bench.proofs.ChainLaws.{none, one_more}
use Rattle.bench.proofs.iterate.Goals as goal

pub loop-k-init : goal.loop-k-init
loop-k-init g c = λ f h. sym (none f _)

pub loop-k-preserved : goal.loop-k-preserved
loop-k-preserved g c = λ f h. h _ _ c.step-b.ensures ∙ ap f (c.loop-k.invariant f h) ∙ sym (one_more f _ _)
