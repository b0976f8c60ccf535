use Rattle.std.proofs.Common.{ℕ, eqb, ap}
use Rattle.bits.specs.Bits.{bit}
use Rattle.bits.proofs.test_bit.Goals as goal

pub returns : goal.returns
unfolding bit
returns c = ap (λ (d : ℕ). eqb d 1) c.digit_of.ensures
