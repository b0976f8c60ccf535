use Rattle.volume.proofs.Keyed.{blank_keyed}
use Rattle.volume.proofs.blank_checked.Goals as goal

pub returns : goal.returns
returns c = search blank_keyed
