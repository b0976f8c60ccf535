use Rattle.mapped.proofs.Answered.{judged_refused}
use Rattle.mapped.proofs.mark_judged.Goals as goal

pub returns-in-Err : goal.returns-in-Err
returns-in-Err c = judged_refused _ c.in-Err.is c.mark_refused.ensures
