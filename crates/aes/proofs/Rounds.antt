-- A round by its table. Assumes nothing.
use mathlib.Core.Path.{◌≡◌, sym, ap, ap₂, ◌∙◌}
use mathlib.Core.List.{List, [], ◌∷◌, ◌++◌}
use Prim.Native.Nat.{ℕ, suc, ◌+◌, ◌-◌, ◌*◌, ◌^◌, ◌<◌}
use native.Mathlib.Omega.{arith}
use lib.Bits.{xor_comm}
use lib.ListN.{length, get_or}
use Rattle.block.specs.Bytes.{from_bytes, to_bytes, xor_bytes}
use Rattle.block.proofs.Bits.{xor_assoc}
use Rattle.block.proofs.Numbers.{to_from, to_bytes_xor}
use Rattle.fips197.specs.Aes.{◌⊕◌, s_box, s_box_table, sub_bytes, sub_word, shift_rows, mix_column, mix_columns, add_round_key, rounds, rotate}
use Rattle.fips197.proofs.Bytes.{length-tabulate, tabulate_at, double_lt, triple_lt, s_box_lt}
use Rattle.aes.proofs.Words.{from_four}
use Rattle.aes.specs.declared.columns.Columns.{Columns}
use Rattle.aes.specs.Columns.{state_of, sub, last_column, round_column, EachColumn, mix_rows, round_table}

-- ---- what stands in the table

table_at : (x : ℕ) → x < 256 → get_or round_table x 0 ≡ from_bytes (mix_rows (s_box x))
unfolding round_table
table_at x h = tabulate_at 256 (λ y. from_bytes (mix_rows (s_box y))) x h

pub entry_rows : (t : List ℕ) (x : ℕ) → t ≡ round_table → x < 256 → to_bytes 4 (get_or t x 0) ≡ mix_rows (s_box x)
entry_rows t x q h =
    let s = s_box_lt x in
    ap (λ (l : List ℕ). to_bytes 4 (get_or l x 0)) q ∙ ap (to_bytes 4) (table_at x h)
    ∙ to_from (mix_rows (s_box x)) (double_lt s, (s, (s, (triple_lt s, tt))))

-- from the S-box
pub entry_of : (s : List ℕ) (x : ℕ) → s ≡ s_box_table → x < 256 → from_bytes (mix_rows (get_or s x 0)) ≡ get_or round_table x 0
unfolding s_box_table
entry_of s x q h = ap (λ (y : ℕ). from_bytes (mix_rows y)) (ap (λ (l : List ℕ). get_or l x 0) q ∙ tabulate_at 256 s_box x h) ∙ sym (table_at x h)

pub length_table : length round_table ≡ 256
unfolding round_table
length_table = length-tabulate 256 (λ y. from_bytes (mix_rows (s_box y)))

-- ---- a column

pub last_column_lem : (a b c d p q r s : ℕ) → p ≡ sub a 0 → q ≡ sub b 1 → r ≡ sub c 2 → s ≡ sub d 3
    → to_bytes 4 (from_bytes (p ∷ q ∷ r ∷ s ∷ [])) ≡ last_column a b c d
unfolding last_column
last_column_lem a b c d p q r s ep eq er es =
    (λ i. to_bytes 4 (from_bytes (ep i ∷ eq i ∷ er i ∷ es i ∷ [])))
    ∙ to_from (last_column a b c d) (s_box_lt _, (s_box_lt _, (s_box_lt _, (s_box_lt _, tt))))

-- a column of one word's rows
pub word_substituted : (r x : ℕ) → r < 2 ^ 32 → to_bytes 4 r ≡ last_column x x x x → r ≡ sub_word x
unfolding sub_word sub_bytes last_column to_bytes
word_substituted r x h e = from_four r h e

-- four entries, each in its row, add up to the mixed column
four_entries : (a b c d x y z u : ℕ)
    → to_bytes 4 x ≡ mix_rows a → to_bytes 4 y ≡ rotate 3 (mix_rows b) → to_bytes 4 z ≡ rotate 2 (mix_rows c) → to_bytes 4 u ≡ rotate 1 (mix_rows d)
    → to_bytes 4 (x ⊕ y ⊕ z ⊕ u) ≡ mix_column a b c d
four_entries a b c d x y z u ex ey ez eu =
    to_bytes_xor 4 (x ⊕ y ⊕ z) u
    ∙ ap₂ xor_bytes (to_bytes_xor 4 (x ⊕ y) z ∙ ap₂ xor_bytes (to_bytes_xor 4 x y ∙ ap₂ xor_bytes ex ey) ez) eu

-- and so they do when the key's word is added before them
pub round_column_lem : (k a b c d x y z u : ℕ)
    → to_bytes 4 x ≡ mix_rows a → to_bytes 4 y ≡ rotate 3 (mix_rows b) → to_bytes 4 z ≡ rotate 2 (mix_rows c) → to_bytes 4 u ≡ rotate 1 (mix_rows d)
    → to_bytes 4 (k ⊕ x ⊕ y ⊕ z ⊕ u) ≡ xor_bytes (mix_column a b c d) (to_bytes 4 k)
round_column_lem k a b c d x y z u ex ey ez eu =
    ap (to_bytes 4) (ap (λ (v : ℕ). v ⊕ u) (ap (λ (v : ℕ). v ⊕ z) (xor_assoc k x y) ∙ xor_assoc k (x ⊕ y) z) ∙ xor_assoc k (x ⊕ y ⊕ z) u ∙ xor_comm k (x ⊕ y ⊕ z ⊕ u))
    ∙ to_bytes_xor 4 (x ⊕ y ⊕ z ⊕ u) k
    ∙ ap (λ (l : List ℕ). xor_bytes l (to_bytes 4 k)) (four_entries a b c d x y z u ex ey ez eu)

-- ---- the state, column by column

module _ (s r : Columns) where
  each_column : (f : ℕ → ℕ → ℕ → ℕ → ℕ → List ℕ) → EachColumn f s r
      → state_of r
      ≡ f 0 s.c0 s.c1 s.c2 s.c3 ++ f 1 s.c1 s.c2 s.c3 s.c0 ++ f 2 s.c2 s.c3 s.c0 s.c1 ++ f 3 s.c3 s.c0 s.c1 s.c2
  unfolding state_of
  each_column f e = λ i. e.0 i ++ e.1 i ++ e.2 i ++ e.3 i

  pub last_state : EachColumn (λ _. last_column) s r → state_of r ≡ shift_rows (sub_bytes (state_of s))
  unfolding state_of last_column shift_rows sub_bytes to_bytes
  last_state e = each_column (λ _. last_column) e

  pub round_state : (w : List ℕ) (n : ℕ) → EachColumn (λ i. round_column (get_or w (4 * n + i) 0)) s r
      → state_of r ≡ add_round_key w n (mix_columns (shift_rows (sub_bytes (state_of s))))
  unfolding state_of round_column add_round_key mix_columns shift_rows sub_bytes to_bytes
  round_state w n e = each_column (λ i. round_column (get_or w (4 * n + i) 0)) e

pub key_state : (w : List ℕ) (n : ℕ) (s : Columns)
    → state_of (record { c0 = s.c0 ⊕ get_or w (4 * n + 0) 0; c1 = s.c1 ⊕ get_or w (4 * n + 1) 0; c2 = s.c2 ⊕ get_or w (4 * n + 2) 0; c3 = s.c3 ⊕ get_or w (4 * n + 3) 0 })
    ≡ add_round_key w n (state_of s)
unfolding state_of add_round_key to_bytes
key_state w n s = λ i.
    to_bytes_xor 4 s.c0 (get_or w (4 * n + 0) 0) i
    ++ to_bytes_xor 4 s.c1 (get_or w (4 * n + 1) 0) i
    ++ to_bytes_xor 4 s.c2 (get_or w (4 * n + 2) 0) i
    ++ to_bytes_xor 4 s.c3 (get_or w (4 * n + 3) 0) i

-- ---- the rounds

pub rounds_next : (w s : List ℕ) (n : ℕ) → 0 < n → add_round_key w n (mix_columns (shift_rows (sub_bytes (rounds w s (n - 1))))) ≡ rounds w s (n + 1 - 1)
unfolding rounds
rounds_next w s n h =
    let e : n ≡ suc (n - 1) = omega arith in
    let f : suc (n - 1) ≡ n + 1 - 1 = omega arith in
    ap (λ (m : ℕ). add_round_key w m (mix_columns (shift_rows (sub_bytes (rounds w s (n - 1)))))) e ∙ ap (rounds w s) f
