use native.Mathlib.Omega.{arith}
use lib.ListN.{length-take}
use Rattle.laptop.proofs.Steps.{judged}
use Rattle.laptop.proofs.judge_sector.Goals as goal

pub returns : goal.returns
returns c = judged _ _ _ _ _ (simp length-take (omega arith)) c.read.ensures
