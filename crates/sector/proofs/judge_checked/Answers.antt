use Rattle.mode.specs.Sealing.{key_from}
use Rattle.answers.specs.Lent.{triple_of}
use Rattle.sector.proofs.Prepared.{judged_is}
use Rattle.sector.proofs.judge_checked.Goals as goal

pub returns : goal.returns
returns c =
    let at = c.args.at.now in
    judged_is (key_from at.key.now) at.volume at.address (triple_of c.args.part.now.places) c.args.out.now c.lend.ensures.same_scheme c.prepare-prepared.ensures.of_key c.tweak_at-tweak.ensures c.judge_in.ensures
