use Rattle.std.proofs.Common.{length-take, length-drop, subst, arith}
use Rattle.std.specs.Io.KnownBytes.{Appends}
use Rattle.std.proofs.KnownBytes.{Appends-trans}
use Rattle.frames.proofs.Turning.{take_part}
use Rattle.frames.proofs.write_all.Goals as goal

pub loop-written-preserved : goal.loop-written-preserved
loop-written-preserved g c =
    let l = c.loop-written in
    let few = simp (length-take, length-drop) at c.in_ok-n.ensures.bound in (
      omega arith,
      subst (Appends (g.W.Write.contents c.args.writer.now) (g.W.Write.contents c.write.new.self)) (take_part c.args.text.now l.written c.in_ok-n.n)
          (Appends-trans _ _ _ _ _ l.invariant.1 c.in_ok-n.ensures.bytes),
    )
