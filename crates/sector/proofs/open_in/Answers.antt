use mathlib.Core.Path.{◌≡◌}
use mathlib.Core.Bool.{true}
use Rattle.block.specs.Value.{value}
use Rattle.block.proofs.Lists.{bytes_all}
use Rattle.verdict.specs.Judging.{side_named}
use Rattle.sector.proofs.Opening.{gives_opposite}
use Rattle.sector.proofs.open_in.Goals as goal

pub returns-in-Opposite : goal.returns-in-Opposite
returns-in-Opposite c =
    let a = c.args in
    let k = a.keyed.now in
    let bytes_x = bytes_all a.x.now (λ i h. (c.type_inv.x i).fits) in
    let bytes_tag = bytes_all a.tag.now (λ i h. (c.type_inv.tag i).fits) in
    let fits : c.opens.result ≡ true = search in
    gives_opposite k.pads.words.now k.powers.now.words (value a.tweak) (side_named a.side) a.x.now a.tag.now a.out.now _ _ c.requires.blocks c.requires.tag_size bytes_x bytes_tag
    c.opens.ensures.opened c.opens.ensures.has_tag c.in-Opposite.is fits c.load-tag.ensures c.sealing_opposite.ensures c.transform.ensures
