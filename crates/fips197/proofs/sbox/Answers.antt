use mathlib.Core.Path.{refl}
use Rattle.block.specs.Field.{times}
use Rattle.fips197.specs.Aes.{xtime, mul_bits, ◌•◌, squares, inverse, rotate_left, affine, s_box, tabulate, s_box_table}
use Rattle.fips197.proofs.sbox.Goals as goal

pub returns : goal.returns
unfolding times xtime mul_bits ◌•◌ squares inverse rotate_left affine s_box tabulate s_box_table
returns c = refl
