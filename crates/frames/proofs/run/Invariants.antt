use Rattle.std.proofs.Common.{◌≡◌, take}
use Rattle.frames.proofs.Turning.{Progress}
use Rattle.frames.proofs.run.Given as goal

abbrev pub invariant-loop-turn : goal.invariant-loop-turn
invariant-loop-turn g l =
    Progress (g.R.Read.remaining l.initial.reader) (g.R.Read.remaining l.reader) (g.W.Write.contents l.initial.writer) (g.W.Write.contents l.writer) (take l.used l.line)
    × (l.turns ≡ l.turn)
