use Rattle.mode.specs.Sealing.{key_from, sealed}
use Rattle.sector.proofs.Prepared.{sealed_under}
use Rattle.sector.proofs.seal_checked.Goals as goal

-- unfolded for a contract that spells `sealed` out, as the edit seal_one_round_key_short does: it is refused for its mistake alone
pub returns : goal.returns
unfolding sealed
returns c =
    let at = c.args.at.now in
    sealed_under (key_from at.key.now) at.volume at.address c.args.p.now c.lend.ensures.same_scheme c.prepare-prepared.ensures.of_key c.tweak_at-tweak.ensures c.seal_in.ensures
