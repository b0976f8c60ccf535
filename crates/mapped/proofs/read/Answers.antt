use Rattle.mapped.proofs.Public.{read_done}
use Rattle.mapped.proofs.read.Goals as goal

pub returns : goal.returns
returns c =
    let a = c.args in
    let l = c.lengths.ensures in
    read_done a.volume.now a.i a.images a.map.now a.out.now (rw (← l.local, ← l.tags, ← l.remote) c.in_ok-check_sector_and_map.ensures) c.read-judged.ensures c.mark_judged.ensures c.put_mark.ensures
