use mathlib.Core.Path.{refl, ap, ◌∙◌}
use native.Mathlib.Omega.{arith}
use Rattle.block.specs.Bytes.{to_bytes}
use Rattle.fips197.specs.Aes.{rot_word}
use Rattle.aes.proofs.Words.{from_four, rotated_bytes}
use Rattle.aes.proofs.rot_word.Goals as goal

pub returns : goal.returns
unfolding rot_word
returns c =
    from_four c.rotate_left.result (omega arith) (ap (to_bytes 4) c.rotate_left.ensures ∙ rotated_bytes c.args.x 3 1 refl (omega arith))
