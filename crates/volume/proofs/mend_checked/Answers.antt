use Rattle.volume.proofs.Keyed.{late_keyed}
use Rattle.volume.proofs.mend_checked.Goals as goal

pub returns : goal.returns
returns c = search late_keyed
