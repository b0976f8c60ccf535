use Rattle.mapped.proofs.Public.{call_done}
use Rattle.mapped.proofs.first_stage.Goals as goal

pub returns : goal.returns
returns c = call_done c.args.volume.now _ _ _ _ _ _ c.in_ok-check_sector_and_map.ensures c.first_stage-first.ensures c.mark_done.ensures c.put_mark.ensures
