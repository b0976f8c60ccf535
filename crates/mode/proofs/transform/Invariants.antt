use Rattle.std.proofs.Common.{◌≡◌}
use Rattle.block.specs.Value.{value}
use Rattle.fips197.specs.Aes.{cipher_number}
use Rattle.mode.specs.Sealing.{times_x, pad}
use Rattle.mode.specs.Transforms.{transformed}
use Rattle.mode.proofs.Blockwise.{Written}
use Rattle.mode.proofs.transform.Given as goal

abbrev pub invariant-loop-j : goal.invariant-loop-j
invariant-loop-j l = (value l.mask ≡ times_x l.j (value l.initial.mask)) × Written (λ n v. transformed l.how (pad (cipher_number l.pads.words.now) (value l.tag) n) v) l.x l.initial.out l.j l.out
