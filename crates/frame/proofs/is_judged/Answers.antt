use mathlib.Core.Path.{refl, ◌∙◌}
use Rattle.frame.proofs.Frames.{judge_numbered}
use Rattle.frame.proofs.is_judged.Goals as goal

pub returns : goal.returns
returns c = c.eq.ensures ∙ judge_numbered _ _ _ _ c.try_from.ensures refl refl
