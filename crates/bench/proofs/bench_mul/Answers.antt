use Rattle.std.proofs.Common.{rules, ◌+◌, ◌*◌, ◌^◌, ap, ◌∙◌}
use Rattle.block.specs.Value.{value}
use Rattle.bench.specs.Chain.{folded, product}
use Rattle.bench.proofs.bench_mul.Goals as goal

pub returns : goal.returns
unfolding value
returns c =
    let a = c.args in
    c.fold.ensures ∙ ap folded (c.iterate.ensures (product (a.bhi * 2 ^ 64 + a.blo)) (λ x y p. search rules))
