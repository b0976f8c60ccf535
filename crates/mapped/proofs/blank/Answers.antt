use Rattle.mapped.proofs.Public.{call_done}
use Rattle.mapped.proofs.blank.Goals as goal

pub returns : goal.returns
returns c = call_done c.args.volume.now _ _ _ _ _ _ c.in_ok-check_sector_and_map.ensures c.blank-blanked.ensures c.mark_done.ensures c.put_mark.ensures
