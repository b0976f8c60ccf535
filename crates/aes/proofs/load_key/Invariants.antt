use mathlib.Core.Path.{◌≡◌}
use mathlib.Core.List.{◌++◌}
use lib.ListN.{take, drop}
use Rattle.fips197.specs.Aes.{key_words}
use Rattle.aes.proofs.load_key.Given as goal

abbrev pub invariant-loop-i : goal.invariant-loop-i
invariant-loop-i l = l.w ≡ take l.i (key_words l.nk l.key) ++ drop l.i l.initial.w
