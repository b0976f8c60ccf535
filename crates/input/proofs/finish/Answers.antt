use mathlib.Core.Path.{◌≡◌, sym, ap, ◌∙◌}
use mathlib.Core.List.{List, ◌++◌}
use Prim.Native.Nat.{ℕ, ◌<◌}
use native.Mathlib.Omega.{arith}
use lib.ListN.{length, take, length-take}
use Rattle.line.specs.Line.{print_line}
use Rattle.input.proofs.Feeding.{finished_none, finished_some}
use Rattle.line.proofs.Showing.{reprint}
use Rattle.input.proofs.Stretches.{take_least}
use Rattle.input.proofs.finish.Goals as goal

-- `finish` meets its contract. Assumes nothing.

pub returns-then-size-eq0 : goal.returns-then-size-eq0
returns-then-size-eq0 c =
    let a = c.args in
    let none : length (take a.used a.line.now) ≡ 0 = simp length-take (omega arith) in
    let e = finished_none (take a.used a.line.now) none in
    (ap (λ (x : List ℕ). x ++ a.out.now) (sym e), ap length (sym e), omega arith)

pub returns : goal.returns
returns c =
    let a = c.args in
    let r = c.print_held in
    let size = c.min-size in
    let some : 0 < length (take a.used a.line.now) = simp length-take (omega arith) in
    let same = take_least a.line.now a.used 16499 size.result (omega arith) size.ensures in
    reprint a.out.now _ r.result 16502 (finished_some (take a.used a.line.now) some ∙ ap print_line (sym same)) (omega arith)
    (r.ensures.0, omega (arith, r.ensures.1), r.ensures.2)
