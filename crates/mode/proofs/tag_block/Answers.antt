use Rattle.block.specs.Field.{power}
use Rattle.block.specs.Value.{value}
use Rattle.hash.specs.Powers.{element_at, key_of}
use Rattle.mode.proofs.Laws.{tag_is}
use Rattle.mode.proofs.tag_block.Goals as goal

pub returns : goal.returns
unfolding power element_at
returns c =
    let k = c.args.keyed.now in
    tag_is k.pads.words.now (key_of k.powers.now.words) (value c.args.tweak) c.args.p.now c.encrypt.ensures c.bitxor.ensures c.mul-product.ensures c.at-h.ensures c.brw_last.ensures k.ready.alpha
