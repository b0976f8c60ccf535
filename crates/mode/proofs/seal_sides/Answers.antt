use mathlib.Core.Path.{refl, ap, ◌∙◌}
use mathlib.Core.List.{List}
use Prim.Native.Nat.{ℕ}
use lib.ListN.{length}
use Rattle.block.specs.Bytes.{Plain, xor_bytes}
use Rattle.block.specs.Value.{value}
use Rattle.block.proofs.Lists.{bytes_all}
use Rattle.fips197.specs.Aes.{cipher_number}
use Rattle.fips197.proofs.Bounds.{cipher_lt}
use Rattle.mode.specs.Sealing.{remote_block, sides}
use Rattle.mode.proofs.Laws.{sides_other}
use Rattle.mode.proofs.seal_sides.Goals as goal

pub returns : goal.returns
unfolding sides remote_block
returns c =
    let a = c.args in
    let E : ℕ → ℕ = cipher_number a.pads.now.words.now in
    let p : List ℕ = a.p.now in
    let g : ℕ = value a.tag in
    let plain : Plain (length p) p = record { long = refl; bytes = bytes_all p (λ i h. (c.type_inv.p i).fits) } in
    let r = c.transform.ensures in
    (c.xor_bytes.ensures ∙ ap (λ (x : List ℕ). xor_bytes x p) r ∙ sides_other E (cipher_lt a.pads.now.words.now) (length p) c.requires.0 g p plain, r)
