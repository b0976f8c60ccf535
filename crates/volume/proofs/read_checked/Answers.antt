use Rattle.volume.proofs.Keyed.{verdict_keyed}
use Rattle.volume.proofs.read_checked.Goals as goal

pub returns : goal.returns
returns c = search verdict_keyed
