use Rattle.volume.proofs.Public.{read_within}
use Rattle.volume.proofs.read.Goals as goal

pub read_checked-requires : goal.read_checked-requires
read_checked-requires c =
    let long = c.lengths.ensures in
    read_within _ _ _ _ _ _ _ _ _ _ _ c.in_ok-check_sector_and_length.ensures long.local long.tags long.remote
