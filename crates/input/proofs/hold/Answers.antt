use mathlib.Core.Path.{ap, ◌∙◌}
use mathlib.Core.List.{List}
use Prim.Native.Nat.{ℕ, ◌+◌, ◌-◌}
use native.Mathlib.Omega.{arith}
use lib.ListN.{take}
use borrow.Rule.Slice.PartMut.{put_mid}
use Rattle.input.proofs.Stretches.{hold_part, hold_none}
use Rattle.input.proofs.hold.Goals as goal

-- `hold` meets its contract: one copy of as much as there is room for, or none. Assumes nothing.

pub returns-then-n-eq0 : goal.returns-then-n-eq0
returns-then-n-eq0 c =
    let a = c.args in
    let h = c.requires in
    (hold_none a.line.now a.part.now a.used c.min-n.result h.0 h.1 c.min-n.ensures c.if-n-eq0.true, omega arith, omega arith)

pub returns : goal.returns
returns c =
    let a = c.args in
    let n : ℕ = c.min-n.result in
    let h = c.requires in
    let e = c.min-n.ensures in (
      ap (λ (x : List ℕ). take (a.used + n) (put_mid a.used (a.used + n - a.used) a.line.now x)) c.copy_from_slice.ensures.after
          ∙ hold_part a.line.now a.part.now a.used n h.0 h.1 e,
      omega arith,
      omega arith,
    )
