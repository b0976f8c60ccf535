-- Laws of the stretch before a line feed. Assumes nothing.
use mathlib.Core.Path.{◌≡◌, refl, sym, ap, ◌∙◌}
use mathlib.Core.Bool.{Bool, true, false}
use mathlib.Core.List.{List, [], ◌∷◌}
use Prim.Native.Nat.{ℕ, suc, ◌+◌, ◌≤◌, ◌<◌, max}
use native.Mathlib.Decide.{dec_le}
use native.Mathlib.Numerals.{add-one}
use native.Mathlib.Omega.{arith}
use lib.Dec.{eqb}
use lib.ListN.{length, drop, get_or, length-drop, drop_of_length-le}
use lib.Seq.{drop-cons}
use borrow.Author.Tests.{eq-eqb, ne_eqb, eqb-true}
use Rattle.text.specs.Lines.{stretch}

-- ---- the loop that looks for a line feed

module _ (b : List ℕ) (i : ℕ) where
  pub stretch_feed : i < length b → get_or b i 0 ≡ 10 → stretch (drop i b) ≡ 0
  unfolding stretch
  stretch_feed h e = rw (drop-cons b i 0, eq-eqb (get_or b i 0) 10 e) refl

  pub stretch_byte : i < length b → (get_or b i 0 ≡ 10 → ⊥) → stretch (drop i b) ≡ stretch (drop (i + 1) b) + 1
  unfolding stretch
  stretch_byte h e =
      ap stretch (drop-cons b i 0 h)
      ∙ rw (ne_eqb (get_or b i 0) 10 e) (sym (add-one (stretch (drop (suc i) b))))
      ∙ ap (λ (n : ℕ). stretch (drop n b) + 1) (sym (add-one i))

  pub stretch_end : length b ≤ i → stretch (drop i b) ≡ 0
  unfolding stretch
  stretch_end h = ap stretch (drop_of_length-le b h)

-- where the loop ends without one: at the buffer's end, or where it began beyond it
pub stretch_none : (b : List ℕ) (at end : ℕ) → at ≤ end → (at ≤ length b → end ≤ length b) → length b ≤ end
    → end + stretch (drop end b) ≡ at + stretch (drop at b) → max at (length b) ≡ at + stretch (drop at b)
stretch_none b at end from within all e = go (dec_le at (length b))
  where
    go : Dec (at ≤ length b) → max at (length b) ≡ at + stretch (drop at b)
    go (yes h) = let k = within h in let z = stretch_end b end all in omega arith
    go (no h) = let z : stretch (drop at b) ≡ 0 = stretch_end b at (omega arith) in omega arith

-- ---- what the callers need

-- the byte behind a stretch is a line feed
pub stretch_at : (l : List ℕ) → stretch l < length l → get_or l (stretch l) 0 ≡ 10
unfolding stretch
stretch_at [] h = absurd (omega arith)
stretch_at (c ∷ cs) h = go (eqb c 10) refl (stretch_at cs)
  where
    go : (t : Bool) → eqb c 10 ≡ t → (stretch cs < length cs → get_or cs (stretch cs) 0 ≡ 10) → get_or (c ∷ cs) (stretch (c ∷ cs)) 0 ≡ 10
    go true e r = rw e (eqb-true c 10 e)
    go false e r = rw e (r (let k : suc (stretch cs) < suc (length cs) = rw e at h in omega arith))

stretch_most : (l : List ℕ) → stretch l ≤ length l
unfolding stretch
stretch_most [] = omega arith
stretch_most (c ∷ cs) = go (eqb c 10) refl (stretch_most cs)
  where
    go : (t : Bool) → eqb c 10 ≡ t → stretch cs ≤ length cs → stretch (c ∷ cs) ≤ suc (length cs)
    go true e r = rw e (omega arith)
    go false e r = rw e (omega arith)

-- a stretch from within a list ends there
pub stretch_within : (b : List ℕ) (i : ℕ) → i ≤ length b → i + stretch (drop i b) ≤ length b
stretch_within b i h = let k = simp length-drop at (stretch_most (drop i b)) in omega arith
