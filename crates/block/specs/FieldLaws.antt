-- What makes the blocks a field with the multipliers that the mode uses: one statement, proved as `field_laws`.
-- ⊕ is `bit_xor`; 2 is the element x, and 3 is 1⊕x.
use Rattle.std.specs.Prelude.{◌≡◌, ℕ, ◌^◌, ◌<◌, bit_xor}
use Rattle.block.specs.Field.{double, mul, x⁻¹, 1⊕x⁻¹}

pub record FieldLaws : Type 0 where
  -- ⊕
  pub add_assoc : (a b c : ℕ) → bit_xor (bit_xor a b) c ≡ bit_xor a (bit_xor b c)
  pub add_comm : (a b : ℕ) → bit_xor a b ≡ bit_xor b a
  pub add_zero : (a : ℕ) → bit_xor a 0 ≡ a
  pub add_cancel : (a b : ℕ) → bit_xor a (bit_xor a b) ≡ b
  pub add_closed : (a b : ℕ) → a < 2 ^ 128 → b < 2 ^ 128 → bit_xor a b < 2 ^ 128
  -- doubling
  pub double_closed : (a : ℕ) → double a < 2 ^ 128
  pub double_linear : (a b : ℕ) → double (bit_xor a b) ≡ bit_xor (double a) (double b)
  -- the product
  pub mul_closed : (a b : ℕ) → b < 2 ^ 128 → mul a b < 2 ^ 128
  pub mul_linear : (a b c : ℕ) → mul a (bit_xor b c) ≡ bit_xor (mul a b) (mul a c)
  pub linear_mul : (a b c : ℕ) → mul (bit_xor a b) c ≡ bit_xor (mul a c) (mul b c)
  pub mul_comm : (a b : ℕ) → a < 2 ^ 128 → b < 2 ^ 128 → mul a b ≡ mul b a
  pub mul_assoc : (a b c : ℕ) → a < 2 ^ 128 → b < 2 ^ 128 → c < 2 ^ 128 → mul (mul a b) c ≡ mul a (mul b c)
  -- the factors 0, 1, x and 1⊕x
  pub zero_mul : (b : ℕ) → mul 0 b ≡ 0
  pub mul_zero : (a : ℕ) → mul a 0 ≡ 0
  pub one_mul : (b : ℕ) → mul 1 b ≡ b
  pub x_mul : (b : ℕ) → mul 2 b ≡ double b
  pub 1⊕x_mul : (b : ℕ) → mul 3 b ≡ bit_xor (double b) b
  -- the two inverses, on either side
  pub x_after : (y : ℕ) → y < 2 ^ 128 → mul 2 (mul x⁻¹ y) ≡ y
  pub x_before : (y : ℕ) → y < 2 ^ 128 → mul x⁻¹ (mul 2 y) ≡ y
  pub 1⊕x_after : (y : ℕ) → y < 2 ^ 128 → mul 3 (mul 1⊕x⁻¹ y) ≡ y
  pub 1⊕x_before : (y : ℕ) → y < 2 ^ 128 → mul 1⊕x⁻¹ (mul 3 y) ≡ y
  -- the marked rows (a) and (b)
  pub row_a : mul 2 0x01 ≡ 0x02
  pub row_b : mul 2 0x80000000000000000000000000000000 ≡ 0x87
