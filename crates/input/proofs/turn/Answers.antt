use mathlib.Core.Path.{ap, sym, ◌∙◌}
use native.Mathlib.Omega.{arith}
use mir.Syntax.{w64}
use mir.Facts.{to_z-of_z, Fits-nat_abs, sfits_to_z, Fits-of_z}
use Rattle.input.specs.Turn.{read_of}
use Rattle.input.proofs.Turns.{read_failed, read_ended, read_gave, turn_failed, turn_ended, turn_fed}
use Rattle.input.proofs.turn.Goals as goal

-- `turn` meets its contract. `try_from` gets what the machine reads back from the bits of `got`. Assumes nothing.

pub returns-in-Ok-eq0 : goal.returns-in-Ok-eq0
returns-in-Ok-eq0 c =
    let a = c.args in (
      turn_ended a.got a.buffer.now a.line.now a.used a.out.now (omega arith) c.clear.ensures
          (ap (λ z. read_of z a.buffer.now) (sym (to_z-of_z c.ranges.got)) ∙ read_ended _ _ a.buffer.now c.in-Ok-eq0.ensures c.in-Ok-eq0.field-0-test)
          c.finish-printed.ensures,
      omega arith,
    )

pub returns-in-Ok : goal.returns-in-Ok
returns-in-Ok c =
    let a = c.args in (
      turn_fed a.got a.buffer.now a.line.now a.used a.out.now c.in-Ok.n
          (ap (λ z. read_of z a.buffer.now) (sym (to_z-of_z c.ranges.got)) ∙ read_gave _ _ a.buffer.now c.in-Ok.ensures c.in-Ok.n-test.1)
          c.feed-fed.ensures,
      omega arith,
    )

pub returns-in-Err : goal.returns-in-Err
returns-in-Err c =
    let a = c.args in (
      turn_failed a.got a.buffer.now a.line.now a.used a.out.now (omega arith) c.clear-in-Err.ensures
          (ap (λ z. read_of z a.buffer.now) (sym (to_z-of_z c.ranges.got)) ∙ read_failed _ a.buffer.now (Fits-nat_abs {w = w64} {w' = w64} tt (sfits_to_z (Fits-of_z c.ranges.got))) c.in-Err.ensures),
      omega arith,
    )
