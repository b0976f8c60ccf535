use Rattle.stages.proofs.Mends.{mend_whole, mend_refused}
use borrow.Author.Rules.{rules}
use Rattle.stages.proofs.mend_in.Goals as goal

pub returns-in_default : goal.returns-in_default
returns-in_default c = mend_whole _ _ _ _ _ _ _ _ c.in_ok-found.ensures c.in_default.is

pub returns-in_err-found : goal.returns-in_err-found
returns-in_err-found c = let a = c.in_err-found in mend_refused _ _ _ _ _ _ _ _ _ a.ensures (search rules)
