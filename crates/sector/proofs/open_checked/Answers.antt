use Rattle.mode.specs.Sealing.{key_from}
use Rattle.verdict.specs.Judging.{side_named}
use Rattle.sector.proofs.Opening.{opened_is}
use Rattle.sector.proofs.open_checked.Goals as goal

pub returns : goal.returns
returns c =
    let a = c.args in
    let at = a.at.now in
    opened_is (key_from at.key.now) at.volume at.address a.wanted (side_named a.side) a.x.now a.tag.now a.out.now c.lend.ensures.same_scheme c.prepare-prepared.ensures.of_key c.tweak_at-tweak.ensures c.open_in.ensures
