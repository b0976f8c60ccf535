-- The refusals of a frame, and what a frame that passes has. Assumes nothing.
use mathlib.Core.Path.{◌≡◌, refl, sym, ap}
use mathlib.Core.Bool.{Bool, true, false, not, ◌&&◌, ◌||◌, cond}
use mathlib.Core.List.{List, [], ◌∷◌, ◌++◌}
use mathlib.Core.Option.{none}
use Prim.Native.Nat.{ℕ, ◌+◌, ◌*◌, ◌-◌, ◌/◌, ◌%◌, ◌≤◌}
use native.Mathlib.Omega.{arith}
use lib.Dec.{eqb, leb}
use lib.ListN.{length}
use borrow.Author.Tests.{eqb-true, leb-true}
use Rattle.mode.specs.Scheme.{is_size}
use Rattle.mode.proofs.Sizes.{size_le}
use Rattle.answers.specs.Rules.{rule, first_of}
use Rattle.answers.proofs.Rules.{none_left, none_right}
use Rattle.frame.specs.Frame.{kind, beside, together, half, kind_rules, halves_rules}
use Rattle.frame.specs.Inner.{Sectors}

-- ---- a frame that passes

pub beside-fits : (f : List ℕ) → 1 ≤ length f → first_of (kind_rules f) ≡ none → beside f ≤ length f
unfolding beside
beside-fits f h e = go (eqb (kind f) 1) (eqb (kind f) 2) (leb 57 (length f)) refl e
  where
    go : (b d t : Bool) → leb 57 (length f) ≡ t → first_of (rule 12 (not (b || d)) ∷ rule 12 (b && not t) ∷ []) ≡ none → cond b 57 1 ≤ length f
    go true d true l k = leb-true 57 (length f) l
    go true d false l k = absurd (let z : ◌≡◌ {A = ℕ} 0 1 = cc in omega arith)
    go false d t l k = h

sectors_even : (n : ℕ) → first_of (halves_rules n) ≡ none → (n % 2 ≡ 0) × (n / 2 ≤ 4096)
sectors_even n e = go (eqb (n % 2) 0) (is_size (n / 2)) refl refl e
  where
    go : (b d : Bool) → eqb (n % 2) 0 ≡ b → is_size (n / 2) ≡ d → first_of (rule 3 (not b) ∷ rule 2 (not d) ∷ []) ≡ none → (n % 2 ≡ 0) × (n / 2 ≤ 4096)
    go true true p q k = (eqb-true (n % 2) 0 p, size_le (n / 2) q)
    go true false p q k = absurd (let z : ◌≡◌ {A = ℕ} 0 1 = cc in omega arith)
    go false d p q k = absurd (let z : ◌≡◌ {A = ℕ} 0 1 = cc in omega arith)

beside_some : (f : List ℕ) → 1 ≤ beside f
unfolding beside
beside_some f = go (eqb (kind f) 1)
  where
    go : (b : Bool) → 1 ≤ cond b 57 1
    go true = omega arith
    go false = omega arith

pub accepted : (f : List ℕ) → 1 ≤ length f → first_of (kind_rules f ++ halves_rules (together f)) ≡ none
    → Sectors (half f) f × (half f ≤ 4096) × (2 * half f + 1 ≤ length f)
unfolding together half
accepted f h e =
    let b = beside-fits f h (none_left (halves_rules (together f)) (kind_rules f) e) in
    let o = beside_some f in
    let t = sectors_even (together f) (none_right (halves_rules (together f)) (kind_rules f) e) in
    ((h, omega arith), t.1, omega arith)

-- from the number that the code has worked out
pub together_is : (f : List ℕ) (b : ℕ) → b ≡ beside f → together f ≡ length f - b
unfolding together
together_is f b e = ap (λ (k : ℕ). length f - k) (sym e)

pub half_is : (f : List ℕ) (b : ℕ) → b ≡ beside f → half f ≡ (length f - b) / 2
unfolding half
half_is f b e = ap (λ (k : ℕ). k / 2) (together_is f b e)
