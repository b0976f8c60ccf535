-- What the definitions of Aes.antt owe to FIPS 197: one statement, proved as `aes_facts`.
use Rattle.std.specs.Prelude.{◌≡◌, List, ℕ, ◌+◌, ◌*◌, ◌≤◌, ◌<◌, get_or}
use Rattle.block.specs.Bytes.{to_bytes}
use Rattle.fips197.specs.Aes.{◌•◌, xtime, inverse, affine, s_box_table, expand, rounds_of, cipher_number}

pub record AesFacts : Type 0 where
  -- 4.2: the product by x
  pub double : (b : ℕ) → 2 • b ≡ xtime b
  -- 4.4: every byte but 0 has its inverse
  pub inverse_zero : inverse 0 ≡ 0
  pub inverse_other : (b : ℕ) → 0 < b → b < 256 → b • inverse b ≡ 1
  -- 5.1.1: the rule at every entry of the table, and the marked row (i)
  pub table_rule : (b : ℕ) → b < 256 → get_or s_box_table b 0 ≡ affine (inverse b)
  pub row_i_00 : get_or s_box_table 0x00 0 ≡ 0x63
  pub row_i_53 : get_or s_box_table 0x53 0 ≡ 0xed
  -- 5.2: a key that is expanded for nr rounds has the round keys of nr rounds
  pub rounds : (nk nr : ℕ) (key : List ℕ) → nk ≤ 4 * (nr + 1) → rounds_of (expand nk nr key) ≡ nr
  -- appendices C.1 and C.3: keys of 4 and of 8 words
  pub example_128 : cipher_number (expand 4 10 (to_bytes 16 0x000102030405060708090a0b0c0d0e0f)) 0x00112233445566778899aabbccddeeff ≡ 0x69c4e0d86a7b0430d8cdb78070b4c55a
  pub example_256 : cipher_number (expand 8 14 (to_bytes 32 0x000102030405060708090a0b0c0d0e0f101112131415161718191a1b1c1d1e1f)) 0x00112233445566778899aabbccddeeff ≡ 0x8ea2b7ca516745bfeafc49904b496089
