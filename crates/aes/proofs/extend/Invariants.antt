use mathlib.Core.Path.{◌≡◌}
use Prim.Native.Nat.{◌-◌}
use lib.ListN.{take}
use Rattle.fips197.specs.Aes.{extend_by}
use Rattle.aes.proofs.extend.Given as goal

abbrev pub invariant-loop-i : goal.invariant-loop-i
invariant-loop-i l = take l.i l.w ≡ extend_by l.nk (take l.nk l.initial.w) (l.i - l.nk)
