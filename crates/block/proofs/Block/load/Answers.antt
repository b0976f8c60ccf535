use Rattle.std.proofs.Common.{ℕ, ◌+◌, ◌*◌, ◌^◌, sym, ◌∙◌, ap₂, arith}
use Rattle.block.proofs.Numbers.{bytes_two}
use Rattle.block.specs.Value.{value}
use Rattle.block.proofs.Block.load.Goals as goal

pub returns : goal.returns
unfolding value
returns c =
    let args = c.args in
    ap₂ (λ (x y : ℕ). x * 2 ^ 64 + y) c.load_word-hi.ensures c.load_word-lo.ensures
    ∙ sym (bytes_two args.bytes.now args.at 8 8 (omega arith))
