use Rattle.std.proofs.Common.{ℕ, ◌-◌, sym, ap, ap₂, ◌∙◌, arith}
use Rattle.std.specs.Int.Bits.{bit_xor}
use Rattle.block.specs.Field.{mul}
use Rattle.block.specs.Value.{value}
use Rattle.hash.specs.Powers.{key_of}
use Rattle.hash.proofs.SliceLaws.{first_brw, at_last, at_block}
use Rattle.hash.proofs.+brw_last.Goals as goal

pub returns-then-t-k : goal.returns-then-t-k
returns-then-t-k size c =
    let args = c.args in
    let h = key_of args.p.now.words in
    let t = c.largest_power-power.result.exponent in
    let power = c.largest_power-power.ensures.exponent_value in
    c.mul.ensures
    ∙ ap₂ mul
    (first_brw h args.x.now (t - 1) c.load.ensures c.brw_last-before.ensures)
    (c.bitxor.ensures ∙ ap (λ (p : ℕ). bit_xor p (value args.last)) power.1)
    ∙ sym (at_last h args.x.now (value args.last) t (omega arith) power.0 (omega arith))

pub returns : goal.returns
returns size c =
    let args = c.args in
    let h = key_of args.p.now.words in
    let t = c.largest_power-power.result.exponent in
    let power = c.largest_power-power.ensures.exponent_value in
    c.bitxor-3.ensures
    ∙ ap₂ bit_xor
    (c.mul-2.ensures ∙ ap₂ mul
    (first_brw h args.x.now (t - 1) c.load.ensures c.brw_last-before.ensures)
    (c.bitxor-2.ensures ∙ ap₂ bit_xor power.1 c.load-xt.ensures))
    c.brw_last-after.ensures
    ∙ sym (at_block h args.x.now (value args.last) t (omega arith) power.0 (omega arith))
