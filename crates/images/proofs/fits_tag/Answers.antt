use native.Mathlib.Omega.{arith}
use Rattle.block.proofs.Lists.{bytes_all}
use Rattle.images.proofs.Parts.{tag_same}
use Rattle.images.proofs.fits_tag.Goals as goal

pub returns : goal.returns
returns c =
    let bytes = bytes_all c.args.tags.now (λ i h. (c.type_inv.tags i).fits) in
    tag_same c.args.i c.args.tags.now c.load.result c.args.g (omega arith) (omega arith) (omega arith) bytes c.requires.1 c.load.ensures c.eq.ensures
