-- What the definition of BRW comes to: one statement, proved as `hash_facts`.
use Rattle.std.specs.Prelude.{◌≡◌, List, [], ◌∷◌, ℕ, zero, suc, ◌^◌, ◌≤◌, ◌<◌}
use Rattle.block.specs.Field.{mul, power}
use Rattle.hash.specs.Brw.{log, cases, brw}

-- h · h · .. · h, with n factors
unfoldable pub product_of : ℕ → ℕ → ℕ
product_of zero h = 1
product_of (suc n) h = mul h (product_of n h)

pub record HashFacts : Type 0 where
  -- the cases hold with BRW itself for the hash of fewer blocks, so the depth in its definition cuts nothing off
  pub recursion : (h : ℕ) (xs : List ℕ) → brw h xs ≡ cases (brw h) h xs
  -- 2 ^ log k is a power of two not above k, and the next one is above k
  pub log_le : (k : ℕ) → 1 ≤ k → 2 ^ log k ≤ k
  pub log_lt : (k : ℕ) → 1 ≤ k → k < 2 ^ suc (log k)
  -- h^t for a power of two t, which BRW takes by squaring, is the product of t factors h
  pub power_is : (h i : ℕ) → h < 2 ^ 128 → power h i ≡ product_of (2 ^ i) h
  -- the marked rows (c) to (f)
  pub row_c : (h : ℕ) → brw h [] ≡ 0
  pub row_d_two : brw 0x02 (0x01 ∷ 0x01 ∷ []) ≡ 0x03
  pub row_d_three : brw 0x02 (0x01 ∷ 0x01 ∷ 0x01 ∷ []) ≡ 0x0e
  pub row_d_four : brw 0x02 (0x01 ∷ 0x01 ∷ 0x01 ∷ 0x01 ∷ []) ≡ 0xee
  pub row_d_five : brw 0x02 (0x01 ∷ 0x01 ∷ 0x01 ∷ 0x01 ∷ 0x01 ∷ []) ≡ 0xef
  pub row_e : mul 0x02 (brw 0x02 (0x01 ∷ 0x01 ∷ 0x01 ∷ 0x01 ∷ [])) ≡ 0x01dc
  pub row_f : brw 0x02 (0x00 ∷ 0x00 ∷ 0x00 ∷ 0x00 ∷ []) ≡ 0x80
  -- row (h), as far as it is about BRW: with h as the first block the second has no effect
  pub row_h : (h y T : ℕ) → brw h (h ∷ y ∷ T ∷ []) ≡ T
