use Rattle.map.proofs.Starting.{Filled}
use Rattle.map.proofs.start_checked.Given as goal

abbrev pub invariant-loop-word : goal.invariant-loop-word
invariant-loop-word l = Filled l.n l.words l.left l.word-index
