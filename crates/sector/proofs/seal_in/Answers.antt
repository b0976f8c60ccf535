use Rattle.block.specs.Value.{value}
use Rattle.sector.proofs.Prepared.{sealed_is}
use Rattle.sector.proofs.seal_in.Goals as goal

pub returns : goal.returns
returns c =
    let a = c.args in
    let k = a.keyed.now in
    sealed_is k.pads.words.now k.powers.now.words (value a.tweak) a.p.now a.tag.now c.requires.tag_size _ c.tag_block-sealed_tag.ensures c.seal_sides.ensures.0 c.store.ensures c.seal_sides.ensures.1
