use mathlib.Core.Path.{◌∙◌}
use Prim.Native.Nat.{◌+◌, ◌*◌}
use native.Mathlib.Omega.{arith}
use Rattle.block.specs.Value.{value}
use Rattle.aes.proofs.Words.{from_columns}
use Rattle.aes.proofs.columns.BlockFromColumns.from.Goals as goal

pub returns : goal.returns
unfolding value
returns c =
    let s = c.args.s in
    (λ i. value (record { hi = c.from.ensures i * 0x1_0000_0000 + c.from-2.ensures i; lo = c.from-3.ensures i * 0x1_0000_0000 + c.from-4.ensures i }))
    ∙ from_columns s.c0 s.c1 s.c2 s.c3 (omega arith) (omega arith) (omega arith) (omega arith)
