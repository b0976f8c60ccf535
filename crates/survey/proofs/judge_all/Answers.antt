use native.Mathlib.Omega.{arith}
use Rattle.survey.proofs.Surveying.{loop_next, loop_all}
use borrow.Author.Rules.{rules}
use Rattle.survey.proofs.judge_all.Goals as goal

pub loop-i-preserved : goal.loop-i-preserved
loop-i-preserved c = loop_next _ _ c.loop-i.invariant (omega arith) c.judge_at-kind.ensures c.count_verdict-counts.ensures c.mark.ensures

pub returns : goal.returns
returns c = search (rules, loop_all)
