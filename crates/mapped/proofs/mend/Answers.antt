use Rattle.mapped.proofs.Answered.{mended}
use Rattle.mapped.proofs.Public.{call_done}
use Rattle.mapped.proofs.mend.Goals as goal

pub returns : goal.returns
returns c = call_done c.args.volume.now _ _ _ _ _ _ c.in_ok-check_sector_and_map.ensures c.mend-mended.ensures (mended _ c.mark_judged.ensures) c.put_mark.ensures
