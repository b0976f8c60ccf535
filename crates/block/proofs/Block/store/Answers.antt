use Rattle.std.proofs.Common.{◌≡◌, ℕ, ◌+◌, List, ◌++◌, length, take, drop, sym, ap, ◌∙◌, ap₂, add_assoc, arith}
use Rattle.block.specs.Bytes.{to_bytes}
use Rattle.block.proofs.Numbers.{to_bytes_two, store_two, length-to_bytes}
use Rattle.block.specs.Value.{value}
use Rattle.block.proofs.Block.store.Goals as goal

pub returns : goal.returns
unfolding value
returns c =
    let args = c.args in
    let o = args.out.now in
    let h = to_bytes 8 args.self.hi in
    let l = to_bytes 8 args.self.lo in
    let at = args.at in
    let lh : length h ≡ 8 = length-to_bytes 8 args.self.hi in
    c.store_word-2.ensures
    ∙ ap (λ (e : List ℕ). take (at + 8) e ++ l ++ drop (at + 8 + 8) e) c.store_word.ensures
    ∙ store_two o h l at 8 8 lh (length-to_bytes 8 args.self.lo) (omega arith)
    ∙ ap₂ (λ (b : List ℕ) (n : ℕ). take at o ++ b ++ drop n o) (sym (to_bytes_two args.self.hi args.self.lo (omega arith))) (add_assoc at 8 8)
