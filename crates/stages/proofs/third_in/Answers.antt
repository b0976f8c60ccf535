use Rattle.stages.proofs.Stages.{third_fits}
use Rattle.stages.proofs.third_in.Goals as goal

pub returns-then-fits_tag : goal.returns-then-fits_tag
returns-then-fits_tag c = search third_fits
