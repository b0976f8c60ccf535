use Rattle.mirror.proofs.Numbers.{survey_counted}
use Rattle.mirror.proofs.mirror_survey.Goals as goal

pub returns-in-Ok : goal.returns-in-Ok
returns-in-Ok c = survey_counted _ _ c.in-Ok.ensures c.count_numbers.ensures
