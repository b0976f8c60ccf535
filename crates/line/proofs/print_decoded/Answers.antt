use mathlib.Core.Path.{sym, ap, ◌∙◌}
use mathlib.Core.Bool.{cond}
use mathlib.Core.List.{List}
use Prim.Native.Nat.{ℕ}
use native.Mathlib.Omega.{arith}
use Rattle.text.specs.Digits.{decode}
use Rattle.text.proofs.Digits.{by_digits}
use Rattle.frame.specs.Frame.{frame_answer}
use Rattle.line.specs.Line.{shown}
use Rattle.line.proofs.Showing.{reprint}
use Rattle.line.proofs.Refusals.{digits_pass, digits_refused}
use Rattle.line.proofs.print_decoded.Goals as goal

pub returns-then-decode : goal.returns-then-decode
returns-then-decode c =
    let a = c.args in
    let h = c.requires in
    let d = c.decode in
    let yes = c.if-decode.true in
    reprint a.out.now c.print_frame.new.out c.print_frame.result _
    (digits_pass a.line.now h.0 (by_digits a.line.now a.frame.now h.1 ∙ sym d.ensures.0 ∙ yes)
    ∙ ap (λ (f : List ℕ). shown (frame_answer f)) (sym (d.ensures.1 ∙ ap (λ b. cond b (decode a.line.now) a.frame.now) yes)))
    (omega arith) c.print_frame.ensures

pub returns-else-decode : goal.returns-else-decode
returns-else-decode c =
    let a = c.args in
    let h = c.requires in
    let d = c.decode in
    let r = c.refuse in
    reprint a.out.now _ r.result _
    (digits_refused a.line.now h.0 (by_digits a.line.now a.frame.now h.1 ∙ sym d.ensures.0 ∙ c.if-decode.false))
    (omega arith) r.ensures
