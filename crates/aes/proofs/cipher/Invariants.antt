use mathlib.Core.Path.{◌≡◌}
use Prim.Native.Nat.{◌-◌}
use Rattle.fips197.specs.Aes.{rounds}
use Rattle.aes.specs.Columns.{state_of}
use Rattle.aes.proofs.cipher.Given as goal

abbrev pub invariant-loop-n : goal.invariant-loop-n
invariant-loop-n l = state_of l.u ≡ rounds l.w (state_of l.initial.u) (l.n - 1)
