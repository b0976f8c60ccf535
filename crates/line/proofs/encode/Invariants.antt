use Rattle.line.proofs.Digits.{Encoding}
use Rattle.line.proofs.encode.Given as goal

abbrev pub invariant-loop-i : goal.invariant-loop-i
invariant-loop-i l = Encoding l.bytes l.initial.out l.out l.i
