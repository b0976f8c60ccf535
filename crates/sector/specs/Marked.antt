-- Document 01's marked table as one statement on the definitions: proved as `marked`. Short values are blocks with leading zeros.
use Rattle.std.specs.Prelude.{◌≡◌, List, [], ◌∷◌, ◌++◌, ℕ, ◌^◌, ◌<◌, get_or}
use Rattle.block.specs.Bytes.{Plain, to_bytes}
use Rattle.block.specs.Field.{mul}
use Rattle.fips197.specs.Aes.{s_box_table}
use Rattle.hash.specs.Brw.{brw}
use Rattle.mode.specs.Sealing.{Key, hash_key, tweak, local_block, remote_block, triple}
use Rattle.mode.specs.Scheme.{Scheme, dcm, scheme}
use Rattle.verdict.specs.Verdict.{clashing, judge}

-- row (h)'s plaintexts of two blocks: h and then 0, and h and then 1
abbrev pub first : ℕ → List ℕ
first h = to_bytes 16 h ++ to_bytes 16 0

abbrev pub second : ℕ → List ℕ
second h = to_bytes 16 h ++ to_bytes 16 1

-- P and Q have one tag, and either one's local with the other's remote and that tag clash
pub record Clash (S : Scheme) (T : ℕ) (P Q : List ℕ) : Type 0 where
  pub one_tag : (S.sealed T P).tag ≡ (S.sealed T Q).tag
  pub one_way : judge S T (triple (S.sealed T P).local (S.sealed T P).tag (S.sealed T Q).remote) ≡ clashing
  pub other_way : judge S T (triple (S.sealed T Q).local (S.sealed T P).tag (S.sealed T P).remote) ≡ clashing

pub record Marked : Type 0 where
  pub row_a : mul 0x02 0x01 ≡ 0x02
  pub row_b : mul 0x02 0x80000000000000000000000000000000 ≡ 0x87
  pub row_c : (h : ℕ) → brw h [] ≡ 0
  pub row_d_two : brw 0x02 (0x01 ∷ 0x01 ∷ []) ≡ 0x03
  pub row_d_three : brw 0x02 (0x01 ∷ 0x01 ∷ 0x01 ∷ []) ≡ 0x0e
  pub row_d_four : brw 0x02 (0x01 ∷ 0x01 ∷ 0x01 ∷ 0x01 ∷ []) ≡ 0xee
  pub row_d_five : brw 0x02 (0x01 ∷ 0x01 ∷ 0x01 ∷ 0x01 ∷ 0x01 ∷ []) ≡ 0xef
  pub row_e : mul 0x02 (brw 0x02 (0x01 ∷ 0x01 ∷ 0x01 ∷ 0x01 ∷ [])) ≡ 0x01dc
  pub row_f : brw 0x02 (0x00 ∷ 0x00 ∷ 0x00 ∷ 0x00 ∷ []) ≡ 0x80
  -- with a cipher whose every block is 0, so is every pad
  pub row_g_local : (g j : ℕ) → local_block (λ x. 0) g j 0x80000000000000000000000000000000 ≡ 0x80000000000000000000000000000087
  pub row_g_remote : (g j : ℕ) → remote_block (λ x. 0) g j 0x80000000000000000000000000000000 ≡ 0x87
  -- both plaintexts have the hash T,
  pub row_h_first : (h T : ℕ) → brw h (h ∷ 0 ∷ T ∷ []) ≡ T
  pub row_h_second : (h T : ℕ) → brw h (h ∷ 1 ∷ T ∷ []) ≡ T
  -- so the one's local with the other's remote and that tag clash: over every cipher E that gives blocks,
  pub row_h_clash : (E : ℕ → ℕ) → ((x : ℕ) → E x < 2 ^ 128) → (h : ℕ) → h < 2 ^ 128 → (T : ℕ) → Clash (dcm E h) T (first h) (second h)
  -- and so under every key and number, at every address
  pub row_h_clash_key : (k : Key) → Plain 32 k.bytes → (volume address : ℕ) → Clash (scheme k) (tweak volume address) (first (hash_key k)) (second (hash_key k))
  pub row_i_00 : get_or s_box_table 0x00 0 ≡ 0x63
  pub row_i_53 : get_or s_box_table 0x53 0 ≡ 0xed
