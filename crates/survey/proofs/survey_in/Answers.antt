use Rattle.survey.proofs.Listing.{empty_maps, judged_listed}
use Rattle.survey.proofs.survey_in.Goals as goal

pub judge_all-counts-requires : goal.judge_all-counts-requires
judge_all-counts-requires c = empty_maps _ c.args.images.now.room.count

pub returns : goal.returns
returns c = judged_listed c.judge_all-counts.ensures _ c.requires c.list.ensures
