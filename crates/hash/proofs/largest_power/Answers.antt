use Rattle.std.proofs.Common.{◌≡◌, ℕ, ◌*◌, ◌^◌, ◌%◌, ap, sym, ◌∙◌, pow-suc, arith}
use Rattle.block.specs.Field.{power}
use Rattle.hash.specs.Brw.{log}
use Rattle.hash.specs.Powers.{key_of}
use Rattle.hash.proofs.BrwLaws.{exponent_le, log_is}
use Rattle.hash.proofs.largest_power.Goals as goal

pub at-requires : goal.at-requires
at-requires c = let le = exponent_le c.ilog2-i.result 8 c.args.k (omega arith) (omega arith) in omega arith

pub returns-clause-exponent_value : goal.returns-clause-exponent_value
returns-clause-exponent_value c =
    let i = c.ilog2-i.result in
    let le = c.ilog2-i.ensures.power_le in
    let gt = c.ilog2-i.ensures.next_power_gt in
    let same : log c.args.k ≡ i = log_is i c.args.k le (omega (arith, pow-suc 2 i)) in
    let fits : 1 * 2 ^ i % 18446744073709551616 ≡ 2 ^ i = omega arith in
    (fits ∙ ap (λ (n : ℕ). 2 ^ n) (sym same), c.at.ensures ∙ ap (power (key_of c.args.p.now.words)) (sym same))
