-- Laws of BRW: its cases hold with BRW itself for the hash of fewer blocks, and its powers are products. Assumes nothing.
use mathlib.Core.Path.{◌≡◌, refl, sym, ap, ap₂, ◌∙◌}
use mathlib.Core.Bool.{Bool, true, false, cond}
use mathlib.Core.List.{List, [], ◌∷◌}
use Prim.Native.Nat.{ℕ, zero, suc, ◌+◌, ◌-◌, ◌^◌, ◌≤◌, ◌<◌}
use native.Mathlib.Nat.{zero-add, suc-add, le_refl, le_trans, lt_of_not-le, not-le_of_lt, le_antisymm, le_of_suc-le-suc, not-suc-le-zero, pow-suc}
use native.Mathlib.Decide.{dec_le}
use native.Mathlib.Omega.{arith}
use lib.Dec.{leb, lit<}
use lib.ListN.{length, take, drop, get_or, length-take, length-drop}
use lib.Pow.{pow_pos, pow_mono}
use lib.Bits.{bit_xor, xor_self}
use borrow.Author.Tests.{leb-true, leb-false}
use Rattle.block.specs.Field.{times, double, horner, mul, power}
use Rattle.block.proofs.Field.{mul_lt, mul_assoc, mul-zero_l, mul_one_l, mul_one_r}
use Rattle.hash.specs.Brw.{log_up_to, log, split, cases, brw_in, brw}
use Rattle.hash.specs.HashFacts.{HashFacts, product_of}

-- ---- the logarithm

lt_pow : (k : ℕ) → k < 2 ^ k
lt_pow zero = lit< tt
lt_pow (suc k) = let ih = lt_pow k in omega (arith, pow-suc 2 k)

up_to_bounds : (n k : ℕ) → 1 ≤ k → k < 2 ^ suc n → (2 ^ log_up_to n k ≤ k) × (k < 2 ^ suc (log_up_to n k))
unfolding log_up_to
up_to_bounds zero k h l = (h, l)
up_to_bounds (suc n) k h l = go (leb (2 ^ suc n) k) refl (up_to_bounds n k h)
  where
    go : (b : Bool) → leb (2 ^ suc n) k ≡ b → (k < 2 ^ suc n → (2 ^ log_up_to n k ≤ k) × (k < 2 ^ suc (log_up_to n k)))
        → (2 ^ cond b (suc n) (log_up_to n k) ≤ k) × (k < 2 ^ suc (cond b (suc n) (log_up_to n k)))
    go true e ih = (leb-true (2 ^ suc n) k e, l)
    go false e ih = ih (leb-false (2 ^ suc n) k e)

pub log_bounds : (k : ℕ) → 1 ≤ k → (2 ^ log k ≤ k) × (k < 2 ^ suc (log k))
unfolding log
log_bounds k h = up_to_bounds k k h (omega (arith, lt_pow k, pow-suc 2 k))

-- a power of two not above k is not above the largest
pub exponent_le : (i j k : ℕ) → 2 ^ i ≤ k → k < 2 ^ suc j → i ≤ j
exponent_le i j k p q = go (dec_le i j)
  where
    go : Dec (i ≤ j) → i ≤ j
    go (yes l) = l
    go (no l) = absurd (not-le_of_lt q (le_trans (pow_mono {i = suc j} {j = i} (lt_of_not-le l)) p))

-- the two bounds hold of one exponent only
pub log_is : (i k : ℕ) → 2 ^ i ≤ k → k < 2 ^ suc i → log k ≡ i
log_is i k p q =
    let b = log_bounds k (le_trans (pow_pos i) p) in
    le_antisymm (exponent_le (log k) i k b.0 q) (exponent_le i (log k) k p b.1)

-- ---- the cases ask for the hash of fewer blocks only

split_cong : (f g : List ℕ → ℕ) (h : ℕ) (xs : List ℕ) → 1 ≤ length xs
    → ((ys : List ℕ) → length ys < length xs → f ys ≡ g ys) → split f h xs ≡ split g h xs
unfolding split
split_cong f g h xs pos same =
    let i : ℕ = log (length xs) in
    let t : ℕ = 2 ^ i in
    let p = pow_pos i in
    let b = log_bounds (length xs) pos in
    ap₂ (λ (u v : ℕ). bit_xor (mul u (bit_xor (power h i) (get_or xs (t - 1) 0))) v)
    (same (take (t - 1) xs) (simp length-take (omega arith)))
    (same (drop t xs) (simp length-drop (omega arith)))

cases_cong : (f g : List ℕ → ℕ) (h : ℕ) (xs : List ℕ) → ((ys : List ℕ) → length ys < length xs → f ys ≡ g ys) → cases f h xs ≡ cases g h xs
unfolding cases
cases_cong f g h [] same = refl
cases_cong f g h (x1 ∷ []) same = refl
cases_cong f g h (x1 ∷ x2 ∷ []) same = refl
cases_cong f g h (x1 ∷ x2 ∷ x3 ∷ []) same = refl
cases_cong f g h (x1 ∷ x2 ∷ x3 ∷ x4 ∷ xs) same = split_cong f g h (x1 ∷ x2 ∷ x3 ∷ x4 ∷ xs) (omega arith) same

-- a depth of the number of blocks is enough
same_depth : (n m h : ℕ) (xs : List ℕ) → length xs ≤ n → length xs ≤ m → brw_in n h xs ≡ brw_in m h xs
unfolding brw_in cases
same_depth zero zero h xs p q = refl
same_depth zero (suc m) h [] p q = refl
same_depth zero (suc m) h (x ∷ xs) p q = absurd (not-suc-le-zero p)
same_depth (suc n) zero h [] p q = refl
same_depth (suc n) zero h (x ∷ xs) p q = absurd (not-suc-le-zero q)
same_depth (suc n) (suc m) h xs p q =
    cases_cong (brw_in n h) (brw_in m h) h xs (λ ys l. same_depth n m h ys (omega arith) (omega arith))

pub brw-cases : (h : ℕ) (xs : List ℕ) → brw h xs ≡ cases (brw h) h xs
unfolding brw brw_in
brw-cases h [] = refl
brw-cases h (x ∷ xs) =
    cases_cong (brw_in (length xs) h) (brw h) h (x ∷ xs)
    (λ ys l. same_depth (length xs) (length ys) h ys (le_of_suc-le-suc l) (le_refl (length ys)))

brw_split : (h : ℕ) (xs : List ℕ) → 4 ≤ length xs → brw h xs ≡ split (brw h) h xs
unfolding cases
brw_split h [] l = absurd (omega arith)
brw_split h (x1 ∷ []) l = absurd (omega arith)
brw_split h (x1 ∷ x2 ∷ []) l = absurd (omega arith)
brw_split h (x1 ∷ x2 ∷ x3 ∷ []) l = absurd (omega arith)
brw_split h (x1 ∷ x2 ∷ x3 ∷ x4 ∷ xs) l = brw-cases h (x1 ∷ x2 ∷ x3 ∷ x4 ∷ xs)

-- four blocks or more, with names for their number and for the power of two
pub brw-rule : (h : ℕ) (xs : List ℕ) (k t : ℕ) → length xs ≡ k → 4 ≤ k → t ≡ 2 ^ log k
    → brw h xs ≡ bit_xor (mul (brw h (take (t - 1) xs)) (bit_xor (power h (log k)) (get_or xs (t - 1) 0))) (brw h (drop t xs))
unfolding split
brw-rule h xs k t len four e = rw (e, ← len) (brw_split h xs (omega arith))

-- ---- the product of n factors h

module _ (h : ℕ) (small : h < 2 ^ 128) where
  product_lt : (n : ℕ) → product_of n h < 2 ^ 128
  unfolding product_of
  product_lt zero = lit< tt
  product_lt (suc n) = mul_lt h (product_lt n)

  product_add : (m n : ℕ) → product_of (m + n) h ≡ mul (product_of m h) (product_of n h)
  unfolding product_of
  product_add zero n = ap (λ (k : ℕ). product_of k h) (zero-add n) ∙ sym (mul_one_l (product_of n h))
  product_add (suc m) n =
      ap (λ (k : ℕ). product_of k h) (suc-add m n) ∙ ap (mul h) (product_add m n)
      ∙ sym (mul_assoc small (product_lt m) (product_lt n))

  -- squaring doubles the number of factors
  power-product : (i : ℕ) → power h i ≡ product_of (2 ^ i) h
  unfolding power product_of
  power-product zero = sym (mul_one_r small)
  power-product (suc i) =
      let e : 2 ^ i + 2 ^ i ≡ 2 ^ suc i = omega (arith, pow-suc 2 i) in
      ap₂ mul (power-product i) (power-product i) ∙ sym (product_add (2 ^ i) (2 ^ i)) ∙ ap (λ (k : ℕ). product_of k h) e

-- ---- as stated

row_h : (h y T : ℕ) → brw h (h ∷ y ∷ T ∷ []) ≡ T
unfolding brw brw_in cases
row_h h y T = rw (xor_self h, mul-zero_l (bit_xor (mul h h) y))

pub hash_facts : HashFacts
unfolding brw brw_in cases split log log_up_to power mul horner double times
hash_facts = record {
  recursion = brw-cases;
  log_le = λ k h. (log_bounds k h).0;
  log_lt = λ k h. (log_bounds k h).1;
  power_is = λ h i small. power-product h small i;
  row_c = λ h. refl;
  row_d_two = refl;
  row_d_three = refl;
  row_d_four = refl;
  row_d_five = refl;
  row_e = refl;
  row_f = refl;
  row_h = row_h;
}
