use native.Mathlib.Omega.{arith}
use lib.ListN.{length-take}
use Rattle.line.proofs.Showing.{reprint, shown-answer}
use Rattle.line.proofs.print_answer.Goals as goal

pub returns : goal.returns
returns c =
    let a = c.args in
    let answer = c.call_frame-answer in
    let r = c.show in
    let few = simp length-take at r.ensures.2 in
    reprint a.out.now _ r.result _
    (shown-answer answer.result answer.ensures c.number.ensures c.plaintext_length-n.ensures.0)
    (omega arith) (r.ensures.0, r.ensures.1, few)
