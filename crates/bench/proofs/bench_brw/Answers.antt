use Rattle.std.proofs.Common.{rules, ℕ, ap, ◌∙◌}
use Rattle.block.specs.Value.{value}
use Rattle.hash.specs.Powers.{key_of}
use Rattle.bench.specs.Chain.{iterate, folded, hashed}
use Rattle.bench.proofs.bench_brw.Goals as goal

pub returns : goal.returns
unfolding value
returns c least most =
    let a = c.args in
    c.fold.ensures
    ∙ ap folded
    (c.iterate.ensures (hashed (key_of c.powers-p.result.words) a.x.now) (λ x y p. search rules)
    ∙ ap (λ (h : ℕ). iterate a.n (hashed h a.x.now) 0) c.powers-p.ensures)
