use mathlib.Core.Path.{◌≡◌}
use Prim.Native.Nat.{◌-◌, ◌≤◌}
use Rattle.fips197.specs.Aes.{xpow}
use Rattle.aes.proofs.rcon.Given as goal

abbrev pub invariant-loop-n : goal.invariant-loop-n
invariant-loop-n l = (l._n - 1 ≤ l.j - 1) × (l.x ≡ xpow (l._n - 1))
