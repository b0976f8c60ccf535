-- The cipher under the example's key at the numbers that the proof meets, computed on the definitions. Assumes nothing.
use mathlib.Core.Path.{◌≡◌, refl, sym, subst}
use mathlib.Core.List.{List, [], ◌∷◌}
use Prim.Native.Nat.{ℕ}
use Rattle.block.specs.Bytes.{number, from_bytes, to_bytes, part}
use Rattle.block.specs.Field.{times}
use Rattle.fips197.specs.Aes.{tabulate, xtime, mul_bits, ◌•◌, squares, inverse, rotate_left, affine, s_box, sub_bytes, shift_rows, mix_columns, add_round_key, rounds, cipher, cipher_number, rot_word, sub_word, xpow, rcon, transform, next_word, key_words, extend_by, expand}
use Rattle.mode.specs.Sealing.{cipher_key, round_keys}
use Rattle.mode.specs.KeyFacts.{some_key}

abbrev keys : List ℕ
keys = 0x10111213 ∷ 0x14151617 ∷ 0x18191a1b ∷ 0x1c1d1e1f ∷ 0xb563d28f ∷ 0xa176c498 ∷ 0xb96fde83 ∷ 0xa572c09c ∷ 0xf7d90c89 ∷ 0x56afc811 ∷ 0xefc01692 ∷ 0x4ab2d60e ∷ 0xc42fa75f ∷ 0x92806f4e ∷ 0x7d4079dc ∷ 0x37f2afd2 ∷ 0x455612c5 ∷ 0xd7d67d8b ∷ 0xaa960457 ∷ 0x9d64ab85 ∷ 0x1634859b ∷ 0xc1e2f810 ∷ 0x6b74fc47 ∷ 0xf61057c2 ∷ 0xfc6fa0d9 ∷ 0x3d8d58c9 ∷ 0x56f9a48e ∷ 0xa0e9f34c ∷ 0xa2628939 ∷ 0x9fefd1f0 ∷ 0xc916757e ∷ 0x69ff8632 ∷ 0x3426aac0 ∷ 0xabc97b30 ∷ 0x62df0e4e ∷ 0x0b20887c ∷ 0x98e2baeb ∷ 0x332bc1db ∷ 0x51f4cf95 ∷ 0x5ad447e9 ∷ 0xe642a455 ∷ 0xd569658e ∷ 0x849daa1b ∷ 0xde49edf2 ∷ []

keys_are : round_keys some_key ≡ keys
unfolding number from_bytes to_bytes part times tabulate xtime mul_bits ◌•◌ squares inverse rotate_left affine s_box sub_bytes rot_word sub_word xpow rcon transform next_word key_words extend_by expand cipher_key round_keys
keys_are = refl

-- the pads of the sector as it was sealed and with the damaged tag, and the tags of what this opens local and remote to
pub record Values (E : ℕ → ℕ) : Type 0 where
  pub alpha : E 0 ≡ 0xeda330f90eecd16c003e5fb09bcff358
  pub beta : E 1 ≡ 0x1b94b57e0718d6b563b170a063d1847d
  pub pad_sealed : E 0x3891910f02e62767b871d0f54441ce97 ≡ 0x9071d4d4cda667be17bfd17c50074978
  pub pad_damaged : E 0x37296afc0e31ad6ac762e140c7a308fa ≡ 0x2db055df6a551a49421c40d200ee6ebe
  pub tag_local : E 0xd61db0fe2b70bb44b6aeac2df4225a50 ≡ 0x389267ba194128f36335739dbccee8c7
  pub tag_remote : E 0xcbc2f0fdb9be8e50ede6d5e343d48ed4 ≡ 0x78f080c20e88e1b35147d2cc74605684

computed : Values (cipher_number keys)
unfolding number from_bytes to_bytes times xtime mul_bits ◌•◌ squares inverse rotate_left affine s_box sub_bytes shift_rows mix_columns add_round_key rounds cipher cipher_number
computed = record { alpha = refl; beta = refl; pad_sealed = refl; pad_damaged = refl; tag_local = refl; tag_remote = refl }

pub values : Values (cipher_number (round_keys some_key))
values = subst (λ (w : List ℕ). Values (cipher_number w)) (sym keys_are) computed
