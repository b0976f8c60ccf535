use Rattle.stages.proofs.Stages.{first_whole, first_doubtful, first_refused}
use Rattle.stages.proofs.first_in.Goals as goal

pub returns-in-Ok-Whole : goal.returns-in-Ok-Whole
returns-in-Ok-Whole c = let a = c.in-Ok-Whole in first_whole _ _ _ _ _ _ _ _ _ _ a.ensures a.field-0-is c.tag_block-g.ensures c.write_side.ensures

pub returns-in-Ok-Doubtful : goal.returns-in-Ok-Doubtful
returns-in-Ok-Doubtful c = let a = c.in-Ok-Doubtful in first_doubtful _ _ _ _ _ _ _ _ _ _ a.ensures a.field-0-is

pub returns-in-Err : goal.returns-in-Err
returns-in-Err c = let a = c.in-Err in first_refused _ _ _ _ _ _ _ _ _ _ _ a.ensures
