-- The cipher of the cipher of zero under four lists of round keys, computed on the definitions: those of a key, of another key, zeros, and
-- all of the first but the last. Assumes nothing.
use mathlib.Core.Path.{◌≡◌, refl}
use mathlib.Core.List.{List}
use Prim.Native.Nat.{ℕ}
use lib.ListN.{take, replicate}
use Rattle.block.specs.Bytes.{number, from_bytes, to_bytes, part}
use Rattle.block.specs.Field.{times}
use Rattle.fips197.specs.Aes.{tabulate, xtime, mul_bits, ◌•◌, squares, inverse, rotate_left, affine, s_box, s_box_table, sub_bytes, shift_rows, mix_columns, add_round_key, rounds, cipher, cipher_number, rot_word, sub_word, xpow, rcon, transform, next_word, key_words, extend_by, expand}

abbrev pub twice : List ℕ → ℕ
twice w = cipher_number w (cipher_number w 0)

abbrev pub of_key : ℕ → List ℕ
of_key k = expand 4 10 (to_bytes 16 k)

pub of_keys : (twice (of_key 0x101112131415161718191a1b1c1d1e1f) ≡ 0x0fb8fbf30cd78a0d7f1331b583e2c66d)
    × (twice (of_key 0x000102030405060708090a0b0c0d0e0f) ≡ 0xaf9d9926f7dac87192b1c4143ad98958)
unfolding number from_bytes to_bytes part times tabulate xtime mul_bits ◌•◌ squares inverse rotate_left affine s_box s_box_table sub_bytes shift_rows mix_columns add_round_key rounds cipher cipher_number rot_word sub_word xpow rcon transform next_word key_words extend_by expand
of_keys = (refl, refl)

pub of_others : (twice (replicate 44 0) ≡ 0xfdfdfdfdfdfdfdfdfdfdfdfdfdfdfdfd)
    × (twice (take 40 (of_key 0x101112131415161718191a1b1c1d1e1f)) ≡ 0xf8cab1a5109fa392981969b1dc33b411)
unfolding number from_bytes to_bytes part times tabulate xtime mul_bits ◌•◌ squares inverse rotate_left affine s_box s_box_table sub_bytes shift_rows mix_columns add_round_key rounds cipher cipher_number rot_word sub_word xpow rcon transform next_word key_words extend_by expand
of_others = (refl, refl)
