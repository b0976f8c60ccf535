-- The cipher's result is a block, whatever its round keys and its input. Assumes nothing.
use mathlib.Core.List.{List, [], ◌∷◌, ◌++◌, map}
use Prim.Native.Nat.{ℕ, zero, suc, ◌+◌, ◌*◌, ◌%◌, ◌^◌, ◌≤◌, ◌<◌, suc-le-suc, zero-le}
use native.Mathlib.Nat.{le_trans}
use lib.Dec.{lit<, lit≤}
use lib.ListN.{length, get_or}
use Rattle.block.specs.Bytes.{Bytes, to_bytes, xor_bytes}
use Rattle.block.proofs.Lists.{bytes_append, bytes_xor}
use Rattle.block.proofs.Numbers.{block_lt, bytes_to_bytes}
use Rattle.fips197.specs.Aes.{s_box, sub_bytes, cell, by_column, shift_rows, add_round_key, cipher, rounds_of, cipher_number}
use Rattle.fips197.proofs.Bytes.{s_box_lt}

get_or_lt : (l : List ℕ) (i : ℕ) → Bytes l → get_or l i 0 < 256
get_or_lt [] i h = lit< tt
get_or_lt (x ∷ xs) zero h = h.0
get_or_lt (x ∷ xs) (suc i) h = get_or_lt xs i h.1

bytes_map : (s : List ℕ) → Bytes (map s_box s)
bytes_map [] = tt
bytes_map (x ∷ xs) = (s_box_lt x, bytes_map xs)

bytes_columns : (f : ℕ → List ℕ) → ((c : ℕ) → Bytes (f c)) → Bytes (by_column f)
bytes_columns f h =
    bytes_append (f 0 ++ f 1 ++ f 2) (f 3) (bytes_append (f 0 ++ f 1) (f 2) (bytes_append (f 0) (f 1) (h 0) (h 1)) (h 2)) (h 3)

bytes_shifted : (s : List ℕ) → Bytes s → Bytes (shift_rows s)
unfolding shift_rows
bytes_shifted s h =
    bytes_columns (λ c. cell s 0 c ∷ cell s 1 (c + 1) ∷ cell s 2 (c + 2) ∷ cell s 3 (c + 3) ∷ [])
    (λ c. (at 0 c, (at 1 (c + 1), (at 2 (c + 2), (at 3 (c + 3), tt)))))
  where
    at : (r c : ℕ) → cell s r c < 256
    at r c = get_or_lt s (r + 4 * (c % 4)) h

-- ⊕ is as long as the shorter
length_xor_le : (x y : List ℕ) → length (xor_bytes x y) ≤ length x
length_xor_le [] y = zero-le
length_xor_le (x ∷ xs) [] = zero-le
length_xor_le (x ∷ xs) (y ∷ ys) = suc-le-suc (length_xor_le xs ys)

module _ (w : List ℕ) (n : ℕ) (s : List ℕ) where
  abbrev key : List ℕ
  key = by_column (λ c. to_bytes 4 (get_or w (4 * n + c) 0))

  last_bytes : Bytes (add_round_key w n (shift_rows (sub_bytes s)))
  unfolding add_round_key sub_bytes
  last_bytes =
      bytes_xor (shift_rows (map s_box s)) key (bytes_shifted (map s_box s) (bytes_map s)) (bytes_columns (λ c. to_bytes 4 (get_or w (4 * n + c) 0)) (λ c. bytes_to_bytes 4 (get_or w (4 * n + c) 0)))

  last_length : length (add_round_key w n (shift_rows (sub_bytes s))) ≤ 16
  unfolding add_round_key shift_rows
  last_length = le_trans (length_xor_le (shift_rows (sub_bytes s)) key) (lit≤ tt)

pub cipher_lt : (w : List ℕ) (x : ℕ) → cipher_number w x < 2 ^ 128
unfolding cipher_number cipher
cipher_lt w x = block_lt (cipher (rounds_of w) w (to_bytes 16 x)) (last_bytes w (rounds_of w) _) (last_length w (rounds_of w) _)
