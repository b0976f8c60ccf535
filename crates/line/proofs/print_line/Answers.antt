use native.Mathlib.Omega.{arith}
use Rattle.line.proofs.Showing.{reprint}
use Rattle.line.proofs.Refusals.{line_refused}
use Rattle.line.proofs.print_line.Goals as goal

pub returns-in-Err : goal.returns-in-Err
returns-in-Err c =
    let a = c.args in
    let r = c.refuse in
    reprint a.out.now _ r.result _ (line_refused a.line.now c.in-Err.ensures)
    (omega arith) r.ensures
