use Rattle.mode.specs.Lent.{scheme_lent}
use Rattle.survey.specs.Inner.{verdict_by}
use Rattle.survey.proofs.Surveying.{Loop}
use Rattle.survey.proofs.judge_all.Given as goal

abbrev pub invariant-loop-i : goal.invariant-loop-i
invariant-loop-i l = Loop (verdict_by (scheme_lent l.keyed) l.volume l.images) l.images.count l.i l.counts l.maps
