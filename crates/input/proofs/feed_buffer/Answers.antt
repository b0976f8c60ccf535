use mathlib.Core.Path.{◌∙◌}
use Prim.Native.Nat.{◌≤◌}
use native.Mathlib.Omega.{arith}
use lib.ListN.{length, length-take, length-drop}
use Rattle.input.proofs.Stretches.{so_far_none, so_far_next, fed_all_lem}
use Rattle.input.proofs.feed_buffer.Goals as goal

-- `feed_buffer` meets its contract. The loop's invariant is `SoFar`: what is printed, and what feeding the rest gives, is what feeding the whole
-- buffer gives. The measure is what is left of the buffer. Assumes nothing.

pub loop-end-init : goal.loop-end-init
loop-end-init c =
    let a = c.args in
    let h = c.requires in
    so_far_none a.buffer.now a.line.now a.used a.out.now c.line_end-end.result
    h.0 h.1 c.line_end-end.ensures

pub loop-end-preserved : goal.loop-end-preserved
loop-end-preserved c =
    let l = c.loop-end in
    let o = c.hold-n in
    let p = c.print_held-printed in
    let part = simp (length-take, length-drop) at o.ensures.2 in
    let v = l.invariant in
    let h = c.requires in
    so_far_next v o.result _ o.ensures.0 (omega arith)
    p.result _ c.line_end-end-in-loop-end.result (o.auto.line ∙ v.line_long) (omega arith) p.auto.out
    p.ensures.0 p.ensures.1 p.ensures.2 (omega arith) c.line_end-end-in-loop-end.ensures

pub returns : goal.returns
returns c =
    let a = c.args in
    let l = c.loop-end in
    let o = c.hold-last in
    let v = l.invariant in
    let h = c.requires in
    let e : length a.buffer.now ≤ l.end = omega arith in
    let r = fed_all_lem v o.result _ o.ensures.0 e (omega arith) in
    (r.0, (r.1, r.2, omega arith), o.ensures.1)
