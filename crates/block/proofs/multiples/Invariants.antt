use Rattle.std.proofs.Common.{◌≡◌, ◌*◌, ◌≤◌, length}
use Rattle.block.specs.Tables.{Multiples}
use Rattle.block.specs.Value.{value}
use Rattle.block.proofs.multiples.Given as goal

abbrev pub invariant-loop-i : goal.invariant-loop-i
invariant-loop-i l = (1 ≤ l.i) × (l.i ≤ 8) × (length l.t ≡ 16) × Multiples (2 * l.i) (value l.b) l.t
