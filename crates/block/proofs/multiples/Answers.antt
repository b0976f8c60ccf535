use Rattle.std.proofs.Common.{◌≡◌, ℕ, ◌*◌, ◌^◌, refl, subst, arith, length-set}
use lib.Arith.{digits_lt}
use Rattle.block.specs.Tables.{multiple_at, Multiples}
use Rattle.block.specs.Value.{value}
use Rattle.block.proofs.Tables.{two_multiples, two_more}
use Rattle.block.proofs.multiples.Goals as goal

pub loop-i-init : goal.loop-i-init
loop-i-init c = (omega arith, omega arith, refl, two_multiples c.args.b)

pub loop-i-preserved : goal.loop-i-preserved
unfolding value multiple_at
loop-i-preserved c =
    let t = c.loop-i.t in
    let i = c.loop-i.i in (
      omega arith,
      omega arith,
      simp length-set c.loop-i.invariant.2,
      two_more t i (value c.args.b) c.double-even.result c.bitxor-odd.result (omega arith) (omega arith)
          (digits_lt {m = 2 ^ 64} {c = 2 ^ 64} (omega arith) (omega arith)) c.loop-i.invariant.2 c.loop-i.invariant.3 c.double-even.ensures c.bitxor-odd.ensures,
    )

pub returns : goal.returns
returns c =
    let all : 2 * c.loop-i.i ≡ 16 = omega arith in
    subst (λ (n : ℕ). Multiples n (value c.args.b) c.loop-i.t) all c.loop-i.invariant.3
