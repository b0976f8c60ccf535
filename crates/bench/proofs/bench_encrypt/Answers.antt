use Rattle.std.proofs.Common.{rules, ℕ, ◌+◌, ◌*◌, ◌/◌, ◌^◌, List, ap, ◌∙◌}
use Rattle.block.specs.Value.{value}
use Rattle.fips197.specs.Aes.{expand, cipher_number}
use Rattle.bench.specs.Chain.{iterate, folded}
use Rattle.bench.proofs.bench_encrypt.Goals as goal

pub returns : goal.returns
unfolding value
returns c length-16 =
    let a = c.args in
    let key = a.key.now in
    c.fold.ensures
    ∙ ap folded
    (c.iterate.ensures (cipher_number c.expand.new.w) (λ x y p. search rules)
    ∙ ap (λ (w : List ℕ). iterate a.n (cipher_number w) (a.hi * 2 ^ 64 + a.lo))
    (c.expand.ensures ∙ ap (λ (n : ℕ). expand (n / 4) 10 key) length-16))
