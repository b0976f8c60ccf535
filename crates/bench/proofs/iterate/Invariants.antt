use Rattle.std.proofs.Common.{◌≡◌, ℕ}
use Rattle.block.specs.Value.{value}
use Rattle.bench.specs.Chain.{iterate}
use Rattle.bench.proofs.iterate.Given as goal

abbrev pub invariant-loop-k : goal.invariant-loop-k
invariant-loop-k g l =
    (f : ℕ → ℕ) → ((x y : _) → goal.F-post g l.step x y → value y ≡ f (value x)) → value l.b ≡ iterate l._k f (value l.initial.b)
