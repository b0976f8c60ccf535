-- The powers as a list of words, filled from the front. Assumes nothing.
use mathlib.Core.Path.{◌≡◌, refl, sym, ap, ap₂, ◌∙◌}
use mathlib.Core.List.{List}
use Prim.Native.Nat.{ℕ, suc, ◌+◌, ◌-◌, ◌*◌, ◌^◌, ◌≤◌, ◌<◌}
use native.Mathlib.Omega.{arith}
use lib.ListN.{replicate, length, get_or, set, length-set}
use lib.Seq.{get_or-set_same, get_or-set_other}
use borrow.Author.Count.{below_none, below_more}
use Rattle.block.specs.Field.{mul, power}
use Rattle.hash.specs.Powers.{element_at, key_of, Powers}

-- the words a and b stored as the element at i
abbrev stored : List ℕ → ℕ → ℕ → ℕ → List ℕ
stored p i a b = set (set p (2 * i) a) (2 * i + 1) b

module _ (p : List ℕ) (i a b : ℕ) where
  stored_same : 2 * i + 1 < length p → element_at (stored p i a b) i ≡ a * 2 ^ 64 + b
  unfolding element_at
  stored_same h =
      ap₂ (λ (x y : ℕ). x * 2 ^ 64 + y)
      (get_or-set_other (set p (2 * i) a) (2 * i + 1) (2 * i) b 0 (λ e. omega (arith, e)) ∙ get_or-set_same p (2 * i) a 0 (omega arith))
      (get_or-set_same (set p (2 * i) a) (2 * i + 1) b 0 (simp length-set h))

  word_other : (k : ℕ) → k < 2 * i → get_or (stored p i a b) k 0 ≡ get_or p k 0
  word_other k h =
      get_or-set_other (set p (2 * i) a) (2 * i + 1) k b 0 (λ e. omega (arith, e)) ∙ get_or-set_other p (2 * i) k a 0 (λ e. omega (arith, e))

  stored_other : (j : ℕ) → j < i → element_at (stored p i a b) j ≡ element_at p j
  unfolding element_at
  stored_other j h = ap₂ (λ (x y : ℕ). x * 2 ^ 64 + y) (word_other (2 * j) (omega arith)) (word_other (2 * j + 1) (omega arith))

-- the first n powers are there, and v is the last of them
pub record Filled (h n : ℕ) (p : List ℕ) (v : ℕ) : Type 0 where
  pub size : length p ≡ 18
  pub each : (j : ℕ) → j < n → element_at p j ≡ power h j
  pub latest : v ≡ power h (n - 1)

pub filled_start : (hi lo : ℕ) → Filled (hi * 2 ^ 64 + lo) 1 (stored (replicate 18 0) 0 hi lo) (hi * 2 ^ 64 + lo)
unfolding element_at power
filled_start hi lo = record { size = refl; each = below_more _ 0 (below_none _) refl; latest = refl }

pub filled_next : (h n : ℕ) (p : List ℕ) (v a b : ℕ) → 1 ≤ n → n < 9 → Filled h n p v → a * 2 ^ 64 + b ≡ mul v v
    → Filled h (n + 1) (stored p n a b) (a * 2 ^ 64 + b)
unfolding power
filled_next h n p v a b k l f e = record { size = simp length-set f.size; each = each; latest = latest ∙ ap (power h) before }
  where
    latest : a * 2 ^ 64 + b ≡ power h (suc (n - 1))
    latest = e ∙ ap₂ mul f.latest f.latest

    before : suc (n - 1) ≡ n + 1 - 1
    before = omega arith

    here : suc (n - 1) ≡ n
    here = omega arith

    each : (j : ℕ) → j < n + 1 → element_at (stored p n a b) j ≡ power h j
    each =
        below_more (λ (j : ℕ). element_at (stored p n a b) j ≡ power h j) n
        (λ j m. stored_other p n a b j m ∙ f.each j m) (stored_same p n a b (omega arith) ∙ latest ∙ ap (power h) here)

pub filled_all : (h n : ℕ) (p : List ℕ) (v : ℕ) → 9 ≤ n → Filled h n p v → (key_of p ≡ h) × Powers p
unfolding Powers power
filled_all h n p v e f = (key, λ j l. f.each j (omega arith) ∙ ap (λ (x : ℕ). power x j) (sym key))
  where
    key : key_of p ≡ h
    key = f.each 0 (omega arith)
