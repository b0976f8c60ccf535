use Rattle.frames.proofs.Turning.{writes_all, on_err}
use Rattle.frames.proofs.print.Goals as goal

pub returns-clause-part : goal.returns-clause-part
returns-clause-part g c = on_err c.flush.result (writes_all _ _ _ c.args.text.now c.args.n c.in_ok-write_all.ensures.all c.flush.ensures.bytes)
