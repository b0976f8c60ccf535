use native.Mathlib.Omega.{arith}
use mathlib.Core.Path.{◌∙◌}
use Rattle.text.proofs.Stretches.{stretch_feed, stretch_byte, stretch_none}
use Rattle.text.proofs.line_end.Goals as goal

pub returns-then-buffer-end-eq10 : goal.returns-then-buffer-end-eq10
returns-then-buffer-end-eq10 c =
    let l = c.loop-end in
    let e = stretch_feed c.args.buffer.now l.end (omega arith) c.if-buffer-end-eq10.true in
    omega arith

pub loop-end-preserved : goal.loop-end-preserved
loop-end-preserved c =
    let l = c.loop-end in
    let e = stretch_byte c.args.buffer.now l.end (omega arith) c.if-buffer-end-eq10.false in
    omega arith

pub returns : goal.returns
returns c =
    let l = c.loop-end in
    c.max.ensures ∙ stretch_none c.args.buffer.now c.args.at l.end (omega arith) l.auto.end-end (omega arith) l.invariant
