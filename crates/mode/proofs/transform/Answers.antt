use mathlib.Core.Path.{ap₂, ◌∙◌}
use Prim.Native.Nat.{ℕ, ◌+◌}
use native.Mathlib.Omega.{arith}
use Rattle.block.specs.Value.{value}
use Rattle.fips197.specs.Aes.{cipher_number}
use Rattle.mode.specs.Sealing.{pad}
use Rattle.mode.specs.Transforms.{transformed}
use Rattle.mode.proofs.Blockwise.{written_next, written_all}
use Rattle.mode.proofs.Laws.{mask_next, pad_is}
use Rattle.mode.proofs.transform.Goals as goal

pub loop-j-preserved : goal.loop-j-preserved
loop-j-preserved c =
    let a = c.args in
    let l = c.loop-j in
    let w = a.pads.now.words.now in
    let g = value a.tag in
    let f : ℕ → ℕ → ℕ = λ n v. transformed a.how (pad (cipher_number w) g n) v in
    let mask = mask_next (value a.pads.now.beta) l.j l.invariant.0 c.double-mask.ensures in
    let key = pad_is w g (l.j + 1) c.encrypt-pad.ensures c.bitxor.ensures mask a.pads.now.ready.beta in
    let v = c.transform_block-r.ensures ∙ ap₂ (transformed a.how) key c.load-v.ensures in (
      mask,
      written_next f a.x.now a.out.now l.j l.out _ _ l.invariant.1 c.store.auto.out c.store.ensures v,
    )

pub returns : goal.returns
returns c =
    let a = c.args in
    let l = c.loop-j in
    written_all (λ n v. transformed a.how (pad (cipher_number a.pads.now.words.now) (value a.tag) n) v) a.x.now a.out.now l.j l.out l.invariant.1 (omega arith) (omega arith)
