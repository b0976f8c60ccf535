use Rattle.answers.specs.Lent.{triple_of}
use Rattle.survey.proofs.Surveying.{survey_keyed}
use Rattle.survey.proofs.survey_checked.Goals as goal

pub returns : goal.returns
returns c =
    survey_keyed _ c.lend.ensures.same_scheme c.prepare-prepared.ensures.of_key _ _ _ (triple_of c.args.images.now.places) _ c.survey_in.ensures
