use Rattle.map.proofs.Counting.{Counted}
use Rattle.map.proofs.count_checked.Given as goal

abbrev pub invariant-loop-word : goal.invariant-loop-word
invariant-loop-word l = Counted l.n l.map l.total l.left l.word-index
