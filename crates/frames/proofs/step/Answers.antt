use Rattle.std.proofs.Common.{List, ℕ, sym, ◌∙◌, subst, take}
use Rattle.std.proofs.lemmas.Result.{err_from_is_err_and}
use Rattle.std.specs.Io.KnownBytes.{Appends}
use Rattle.input.specs.Turn.{read_of}
use Rattle.frames.specs.Answered.{WritesPart}
use Rattle.frames.proofs.Turning.{turn_got, turn_ends, turn_fails, write_fails}
use Rattle.frames.proofs.step.Goals as goal

pub returns-in_err-print-clause-err : goal.returns-in_err-print-clause-err
returns-in_err-print-clause-err g c =
    let t = turn_got c.read-got.result _ _ _ _ _ _ _ c.read-got.type_inv c.turn-turn.ensures.0 in
    let p = err_from_is_err_and c.from_residual.result c.from_residual.ensures.1 in
    rw p.1
    (write_fails p.0 p.2 _ _ _ _ _ (read_of c.read-got.result c.read-got.new.buffer) c.read-got.ensures
    (subst (λ (l : List ℕ). WritesPart (g.W.Write.contents c.args.writer.now) (g.W.Write.contents c.print.new.writer) l) t.printed c.in_err-print.ensures.part))

pub returns-in-ReadOn-clause-ok : goal.returns-in-ReadOn-clause-ok
returns-in-ReadOn-clause-ok g c =
    let t = turn_got c.read-got.result _ _ _ _ _ _ _ c.read-got.type_inv c.turn-turn.ensures.0 in (
      read_of c.read-got.result c.read-got.new.buffer,
      c.read-got.ensures,
      t.rest,
      sym c.in-ReadOn.is ∙ t.next,
      subst (Appends (g.W.Write.contents c.args.writer.now) (g.W.Write.contents c.print.new.writer)) t.printed c.in_ok-print.ensures.all,
    )

pub returns-in-Ended-clause-ok : goal.returns-in-Ended-clause-ok
returns-in-Ended-clause-ok g c =
    let t = turn_got c.read-got.result _ _ _ _ _ _ _ c.read-got.type_inv c.turn-turn.ensures.0 in
    turn_ends (take c.args.used c.args.line.now) (read_of c.read-got.result c.read-got.new.buffer) _ _ _ _ (sym c.in-Ended.is ∙ t.next) c.read-got.ensures
    (subst (Appends (g.W.Write.contents c.args.writer.now) (g.W.Write.contents c.print.new.writer)) t.printed c.in_ok-print.ensures.all)

pub returns-in-Failed-clause-err : goal.returns-in-Failed-clause-err
returns-in-Failed-clause-err g c =
    let t = turn_got c.read-got.result _ _ _ _ _ _ _ c.read-got.type_inv c.turn-turn.ensures.0 in
    turn_fails (take c.args.used c.args.line.now) (read_of c.read-got.result c.read-got.new.buffer) _ _ _ _ (sym c.in-Failed.is ∙ t.next) c.read-got.ensures
    (subst (Appends (g.W.Write.contents c.args.writer.now) (g.W.Write.contents c.print.new.writer)) t.printed c.in_ok-print.ensures.all)
