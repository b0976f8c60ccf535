use Rattle.std.proofs.Common.{◌≡◌, ℕ, ◌+◌, ◌-◌, List, ◌++◌, take, drop, sym, ap, ◌∙◌, ap₂, append_assoc, arith, drop-drop}
use Rattle.block.specs.Bytes.{to_bytes}
use Rattle.block.proofs.WordBytes.{bytes_of_word}
use Rattle.block.proofs.store_word.Goals as goal

pub returns : goal.returns
returns c =
    let o = c.args.out.now in
    let at = c.args.at in
    let behind : at + (at + 8 - at) ≡ at + 8 = omega arith in
    ap₂ (λ (l r : List ℕ). take at o ++ (l ++ r))
    (c.copy_from_slice.ensures.after ∙ c.to_be_bytes.ensures ∙ bytes_of_word c.args.word)
    (drop-drop (at + 8 - at) at o ∙ ap (λ (n : ℕ). drop n o) behind)
    ∙ sym (append_assoc (take at o) (to_bytes 8 c.args.word) (drop (at + 8) o))
