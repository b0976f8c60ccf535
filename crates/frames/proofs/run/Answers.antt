use Rattle.std.proofs.Common.{take, [], refl, arith}
use Rattle.std.proofs.lemmas.Result.{err_from_is_err_and}
use Rattle.frames.proofs.Turning.{progress_start, progress_on, progress_end, progress_ended, progress_fails, until_turns}
use Rattle.frames.proofs.run.Goals as goal

pub loop-turn-init : goal.loop-turn-init
loop-turn-init g c = (progress_start _ _, refl)

pub returns-in_err-held-clause-err : goal.returns-in_err-held-clause-err
returns-in_err-held-clause-err g c =
    let x = until_turns _ _ _ _ _ (progress_fails c.loop-turn.invariant.0 _ _ c.in_err-held.field-0.0 c.in_err-held.ensures.err) in
    let p = err_from_is_err_and c.from_residual.result c.from_residual.ensures.1 in
    rw (p.1, p.2) x

pub returns-in_default-clause-ok : goal.returns-in_default-clause-ok
returns-in_default-clause-ok g c = progress_end c.loop-turn.invariant.0 _ _ [] (rw c.in_default.is at c.in_ok-held.ensures.ok)

pub loop-turn-preserved : goal.loop-turn-preserved
loop-turn-preserved g c = (progress_on c.loop-turn.invariant.0 _ _ (take c.in-Some.held c.step.new.line) (rw c.in-Some.is at c.in_ok-held.ensures.ok), refl)

pub returns-clause-err : goal.returns-clause-err
returns-clause-err g c = (omega arith, progress_ended c.loop-turn.invariant.0)
