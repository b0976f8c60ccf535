use mathlib.Core.Path.{ap, ◌∙◌}
use Prim.Native.Nat.{ℕ}
use native.Mathlib.Omega.{arith}
use lib.ListN.{replicate}
use Rattle.frame.specs.Frame.{called, answered}
use Rattle.line.specs.Line.{shown}
use Rattle.line.proofs.Showing.{reprint}
use Rattle.frame.proofs.Refusals.{accepted, half_is}
use Rattle.line.proofs.Refusals.{frame_passes, frame_refused}
use Rattle.line.proofs.print_frame.Goals as goal

pub overflow_sub-s : goal.overflow_sub-s
overflow_sub-s c = let z = accepted c.args.frame.now c.requires.0 c.in_default.ensures in omega arith

pub print_sectors-requires : goal.print_sectors-requires
print_sectors-requires c = let z = accepted c.args.frame.now c.requires.0 c.in_default.ensures in omega arith

pub returns : goal.returns
returns c =
    let a = c.args in
    let r = c.print_sectors in
    let b = c.beside in
    let none = c.in_default.ensures in
    let z = accepted a.frame.now c.requires.0 none in
    reprint a.out.now _ r.result _
    (frame_passes a.frame.now none
    ∙ ap (λ (s : ℕ). shown (answered (called a.frame.now (replicate s 0)))) (half_is a.frame.now b.result b.ensures))
    (omega arith) r.ensures

pub returns-in-Err : goal.returns-in-Err
returns-in-Err c =
    let a = c.args in
    let r = c.refuse in
    reprint a.out.now _ r.result _ (frame_refused a.frame.now c.in-Err.ensures)
    (omega arith) r.ensures
