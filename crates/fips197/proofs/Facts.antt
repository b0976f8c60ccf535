-- The facts of specs/Facts.antt, most of them computed on the definitions. Assumes nothing.
use mathlib.Core.Path.{◌≡◌, refl, sym, ap, ◌∙◌}
use mathlib.Core.List.{List, ◌∷◌}
use Prim.Native.Nat.{ℕ, zero, suc, ◌<◌}
use native.Mathlib.Nat.{not-suc-le-zero, le_of_suc-le-suc}
use lib.ListN.{get_or, replicate, get_or-replicate}
use Rattle.block.specs.Bytes.{number, from_bytes, to_bytes, part}
use Rattle.block.specs.Field.{times}
use Rattle.fips197.specs.Aes.{tabulate, xtime, mul_bits, ◌•◌, squares, inverse, rotate_left, affine, s_box, s_box_table, sub_bytes, shift_rows, mix_columns, add_round_key, rounds, cipher, cipher_number, rot_word, sub_word, xpow, rcon, transform, next_word, key_words, extend_by, expand}
use Rattle.fips197.specs.Facts.{AesFacts}
use Rattle.fips197.proofs.Bytes.{tabulate_at, double_is}
use Rattle.fips197.proofs.Schedule.{rounds-expand}

-- every byte times its inverse
inverses : tabulate 256 (λ b. b • inverse b) ≡ 0 ∷ replicate 255 1
unfolding tabulate times xtime mul_bits ◌•◌ squares inverse
inverses = refl

inverse_is : (b : ℕ) → 0 < b → b < 256 → b • inverse b ≡ 1
inverse_is zero p h = absurd (not-suc-le-zero p)
inverse_is (suc n) p h =
    sym (tabulate_at 256 (λ b. b • inverse b) (suc n) h) ∙ ap (λ (l : List ℕ). get_or l (suc n) 0) inverses
    ∙ get_or-replicate 255 n 1 0 (le_of_suc-le-suc h)

rule : (b : ℕ) → b < 256 → get_or s_box_table b 0 ≡ affine (inverse b)
unfolding s_box_table s_box
rule b h = tabulate_at 256 s_box b h

pub aes_facts : AesFacts
unfolding number from_bytes to_bytes part times tabulate xtime mul_bits ◌•◌ squares inverse rotate_left affine s_box s_box_table sub_bytes shift_rows mix_columns add_round_key rounds cipher cipher_number rot_word sub_word xpow rcon transform next_word key_words extend_by expand
aes_facts = record {
  double = double_is;
  inverse_zero = refl;
  inverse_other = inverse_is;
  table_rule = rule;
  row_i_00 = refl;
  row_i_53 = refl;
  rounds = rounds-expand;
  example_128 = refl;
  example_256 = refl;
}
