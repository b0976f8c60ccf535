-- The tables of a product. Assumes nothing.
use Rattle.std.proofs.Common.{◌≡◌, ℕ, zero, suc, ◌+◌, ◌*◌, ◌^◌, ◌<◌, ◌≤◌, List, [], ◌∷◌, length, get_or, set, replicate, sym, refl, ap, ◌∙◌, subst, ap₂, lt_of_lt_of_le, le_of_suc-le-suc, add-zero, zero-add, arith, lit<, lit≤, length-set, get_or-set_other, get_or-set_same}
use native.Mathlib.Decide.{ℕ_discrete}
use lib.Bits.{bit_xor, xor_zero_r}
use Rattle.block.specs.declared.Block.{Block}
use Rattle.block.specs.Field.{double, mul}
use Rattle.block.specs.Tables.{multiple_at, Multiples, Reductions}
use Rattle.block.specs.Value.{value}
use Rattle.block.proofs.Field.{mul-zero_l, mul_one_l}
use Rattle.block.proofs.Product.{multiple_from_half}

-- ---- the multiples

abbrev nothing : Block
nothing = record { hi = 0; lo = 0 }

-- one more
grown : (t : List Block) (n b : ℕ) (m : Block) → n < 16 → length t ≡ 16 → Multiples n b t → value m ≡ mul n b → Multiples (n + 1) b (set t n m)
unfolding Multiples multiple_at
grown t n b m hn len all e j h = pick (ℕ_discrete j n)
  where
    pick : Dec (j ≡ n) → multiple_at (set t n m) j ≡ mul j b
    pick (yes y) =
        subst (λ (k : ℕ). multiple_at (set t n m) k ≡ mul k b) (sym y)
        (ap value (get_or-set_same t n m nothing (omega arith)) ∙ e)
    pick (no y) = ap value (get_or-set_other t n j m nothing y) ∙ all j (omega (arith, y))

-- two more, each from its half
pub two_more : (t : List Block) (i b : ℕ) (even odd : Block) → 1 ≤ i → i < 8 → b < 2 ^ 128 → length t ≡ 16 → Multiples (2 * i) b t
    → value even ≡ double (multiple_at t i) → value odd ≡ bit_xor (value even) b
    → Multiples (2 * (i + 1)) b (set (set t (2 * i) even) (2 * i + 1) odd)
unfolding Multiples
two_more t i b even odd p q hb len all e o =
    let i_lt : i < 2 ^ 127 = lt_of_lt_of_le q (lit≤ tt) in
    let half : value even ≡ double (mul i b) = e ∙ ap double (all i (omega arith)) in
    let even_is : value even ≡ mul (2 * i) b =
    half ∙ sym (xor_zero_r (double (mul i b))) ∙ ap (bit_xor (double (mul i b))) (sym (mul-zero_l b))
    ∙ multiple_from_half i 0 i_lt (lit< tt) hb ∙ ap (λ (n : ℕ). mul n b) (add-zero (2 * i)) in
    let odd_is : value odd ≡ mul (2 * i + 1) b =
    o ∙ ap₂ bit_xor half (sym (mul_one_l b)) ∙ multiple_from_half i 1 i_lt (lit< tt) hb in
    let done : 2 * i + 1 + 1 ≡ 2 * (i + 1) = omega arith in
    subst (λ (n : ℕ). Multiples n b (set (set t (2 * i) even) (2 * i + 1) odd)) done
    (grown (set t (2 * i) even) (2 * i + 1) b odd (omega arith) (simp length-set len) (grown t (2 * i) b even (omega arith) len all even_is) odd_is)

-- the first two
no_multiple : (b : ℕ) → Multiples 1 b (replicate 16 nothing)
unfolding Multiples multiple_at value
no_multiple b zero h = sym (mul-zero_l b)
no_multiple b (suc j) h = absurd (omega arith)

pub two_multiples : (b : Block) → Multiples 2 (value b) (set (replicate 16 nothing) 1 b)
two_multiples b = grown (replicate 16 nothing) 1 (value b) b (lit< tt) refl (no_multiple (value b)) (sym (mul_one_l (value b)))

-- ---- the reductions

-- the values of f, from n on
abbrev values : (ℕ → ℕ) → ℕ → ℕ → List ℕ
values f n zero = []
values f n (suc k) = f n ∷ values f (suc n) k

values_at : (f : ℕ → ℕ) (n k j : ℕ) → j < k → get_or (values f n k) j 0 ≡ f (n + j)
values_at f n zero j h = absurd (omega arith)
values_at f n (suc k) zero h = ap f (sym (add-zero n))
values_at f n (suc k) (suc j) h = values_at f (suc n) k j (le_of_suc-le-suc h) ∙ ap f (omega arith)

pub are_reductions : (r : List ℕ) → r ≡ values (mul 0x87) 0 16 → Reductions r
unfolding Reductions
are_reductions r e n h = ap (λ (l : List ℕ). get_or l n 0) e ∙ values_at (mul 0x87) 0 16 n h ∙ ap (mul 0x87) (zero-add n)
