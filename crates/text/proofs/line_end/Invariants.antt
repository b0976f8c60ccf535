use mathlib.Core.Path.{◌≡◌}
use Prim.Native.Nat.{◌+◌}
use lib.ListN.{drop}
use Rattle.text.specs.Lines.{stretch}
use Rattle.text.proofs.line_end.Given as goal

abbrev pub invariant-loop-end : goal.invariant-loop-end
invariant-loop-end l = l.end + stretch (drop l.end l.buffer) ≡ l.at + stretch (drop l.at l.buffer)
