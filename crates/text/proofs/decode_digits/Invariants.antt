use Rattle.text.proofs.Digits.{Decoding}
use Rattle.text.proofs.decode_digits.Given as goal

abbrev pub invariant-loop-i : goal.invariant-loop-i
invariant-loop-i l = Decoding l.line l.initial.bytes l.bytes l.i
