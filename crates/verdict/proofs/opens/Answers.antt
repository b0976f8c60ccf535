use Rattle.std.proofs.Common.{arith}
use Rattle.block.specs.Value.{value}
use Rattle.block.proofs.Lists.{bytes_all}
use Rattle.verdict.proofs.Sides.{tag_tested}
use Rattle.verdict.proofs.opens.Goals as goal

pub returns-clause-has_tag : goal.returns-clause-has_tag
returns-clause-has_tag c =
    let a = c.args in
    let k = a.keyed.now in
    let bytes = bytes_all a.tag.now (λ i h. (c.type_inv.tag i).fits) in
    tag_tested k.pads.words.now k.powers.now.words (value a.tweak) a.tag.now c.requires.tag_size bytes _ _ _ (omega arith) (omega arith) c.tag_block.ensures c.load-expected.ensures c.eq.ensures
