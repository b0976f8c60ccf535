use Rattle.std.proofs.Common.{ℕ, ◌^◌, ◌<◌, ◌∙◌, ap₂, arith}
use lib.Arith.{digits_lt}
use lib.Bits.{bit_xor}
use Rattle.block.specs.Field.{mul}
use Rattle.block.specs.Value.{value}
use Rattle.block.proofs.Product.{chain_start, chain_next, chain_all, two_words}
use Rattle.block.proofs.BlockMul.mul.Goals as goal

pub loop-turn-init : goal.loop-turn-init
loop-turn-init c = (omega arith, chain_start _ _ (omega arith), chain_start _ _ (omega arith))

pub loop-turn-preserved : goal.loop-turn-preserved
loop-turn-preserved c =
    let l = c.loop-turn in (
      omega arith,
      chain_next _ _ l._turn l.p l.u c.multiple.result c.step-p.result (omega arith) l.invariant.1
          c.multiple.ensures c.step-p.ensures,
      chain_next _ _ l._turn l.q l.v c.multiple-in-loop-turn.result c.step-q.result (omega arith) l.invariant.2
          c.multiple-in-loop-turn.ensures c.step-q.ensures,
    )

pub returns : goal.returns
unfolding value
returns c =
    let args = c.args in
    let l = c.loop-turn in
    let b = value args.rhs in
    let b_lt : b < 2 ^ 128 = digits_lt {q = args.rhs.hi} {m = 2 ^ 64} {c = 2 ^ 64} (omega arith) (omega arith) in
    let all = c.multiples-t.ensures in
    c.join.ensures
    ∙ ap₂ (λ (x y : ℕ). bit_xor (mul (2 ^ 64) x) y)
    (chain_all _ _ l._turn l.p l.u b (omega arith) b_lt all l.invariant.1)
    (chain_all _ _ l._turn l.q l.v b (omega arith) b_lt all l.invariant.2)
    ∙ two_words args.self.hi args.self.lo (omega arith) (omega arith) b_lt
