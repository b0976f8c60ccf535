-- `opened` gives exactly the plaintext that fits. Assumes nothing but the laws of the scheme.
use mathlib.Core.Path.{◌≡◌, refl, sym, ◌∙◌, ap, ap₂, subst}
use mathlib.Core.Bool.{Bool, true, false, ◌&&◌, cond}
use mathlib.Core.List.{List}
use mathlib.Core.Option.{none, some}
use Prim.Native.Nat.{ℕ}
use native.Mathlib.Omega.{arith}
use Rattle.block.specs.Bytes.{Plain, same}
use Rattle.block.proofs.Lists.{and_left, and_right, and_both, same_eq, eq_same}
use Rattle.mode.specs.Scheme.{on, Scheme, Lawful}
use Rattle.verdict.specs.Verdict.{Side, local_side, remote_side, place_of, open_side, opened, FitsBoth, OpenExact}

module _ (s : ℕ) (S : Scheme) (L : Lawful s S) (T : ℕ) where
  -- sealing and then opening gives the plaintext back
  back : (d : Side) (P : List ℕ) → Plain s P → open_side S d (S.sealed T P).tag (on (S.sealed T P) (place_of d)) ≡ P
  back local_side P h = L.left T P h
  back remote_side P h = L.right T P h

  pub open_plain : (d : Side) (g x : List ℕ) → Plain 16 g → Plain s x → Plain s (open_side S d g x)
  open_plain local_side g x p q = L.plain_local g x p q
  open_plain remote_side g x p q = L.plain_remote g x p q

  module _ (d : Side) (g x : List ℕ) where
    abbrev found : List ℕ
    found = open_side S d g x

    abbrev tests : List ℕ → Bool
    tests P = same g (S.sealed T P).tag && same x (on (S.sealed T P) (place_of d))

    -- what fits is the one candidate
    pub opens_one : (P : List ℕ) → Plain s P → FitsBoth S T d g x P → found ≡ P
    opens_one P h o = ap₂ (open_side S d) o.fits_tag o.fits_side ∙ back d P h

    tests-true : (P : List ℕ) → FitsBoth S T d g x P → tests P ≡ true
    tests-true P o =
        and_both (same g (S.sealed T P).tag) (same x (on (S.sealed T P) (place_of d))) (eq_same o.fits_tag) (eq_same o.fits_side)

    true_opens : (P : List ℕ) → tests P ≡ true → FitsBoth S T d g x P
    true_opens P e = record {
      fits_tag = same_eq g (S.sealed T P).tag (and_left (same g (S.sealed T P).tag) (same x (on (S.sealed T P) (place_of d))) e);
      fits_side = same_eq x (on (S.sealed T P) (place_of d)) (and_right (same g (S.sealed T P).tag) (same x (on (S.sealed T P) (place_of d))) e);
    }

    pub opened_some : (P : List ℕ) → Plain s P → FitsBoth S T d g x P → opened S T d g x ≡ some P
    unfolding opened
    opened_some P h o =
        let e : found ≡ P = opens_one P h o in
        ap (λ (Q : List ℕ). cond (tests Q) (some Q) none) e ∙ ap (λ (b : Bool). cond b (some P) none) (tests-true P o)

    some_opens : (P : List ℕ) → opened S T d g x ≡ some P → (found ≡ P) × FitsBoth S T d g x P
    unfolding opened
    some_opens P e = go (tests found) refl e
      where
        go : (b : Bool) → tests found ≡ b → cond b (some found) none ≡ some P → (found ≡ P) × FitsBoth S T d g x P
        go true t k = let e : found ≡ P = cc in (e, true_opens P (ap tests (sym e) ∙ t))
        go false t k = absurd (let z : ◌≡◌ {A = ℕ} 0 1 = cc in omega arith)

    -- no plaintext that fits: none is given
    pub opened_none : Plain s found → ((P : List ℕ) → Plain s P → FitsBoth S T d g x P → ⊥) → opened S T d g x ≡ none
    unfolding opened
    opened_none h never = go (tests found) refl
      where
        go : (b : Bool) → tests found ≡ b → cond b (some found) none ≡ none
        go true t = absurd (never found h (true_opens found t))
        go false t = refl

pub open_exact : (s : ℕ) (S : Scheme) → Lawful s S → OpenExact s S
open_exact s S L T d g x p q P =
    (λ e. let f = some_opens s S L T d g x P e in (subst (λ (Q : List ℕ). Plain s Q) f.0 (open_plain s S L T d g x p q), f.1), λ f. opened_some s S L T d g x P f.0 f.1)
