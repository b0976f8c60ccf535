-- Refusals in order. Assumes nothing.
use mathlib.Core.Path.{◌≡◌, refl, sym, ap, ◌∙◌}
use mathlib.Core.Bool.{Bool, true, false, cond}
use mathlib.Core.List.{List, [], ◌∷◌, ◌++◌}
use mathlib.Core.Option.{Option, none, some}
use Prim.Native.Nat.{ℕ}
use native.Mathlib.Omega.{arith}
use Rattle.answers.specs.declared.Refusal.{Refusal}
use Rattle.std.specs.Prelude.{Result, Ok, Err}
use Rattle.answers.specs.Answers.{refusal_number, done_option}
use Rattle.answers.specs.Rules.{Rule, first_of, first_some, settle}

-- ---- one rule

pub cond_none : (b : Bool) (k : ℕ) (o : Option ℕ) → cond b (some k) o ≡ none → (b ≡ false) × (o ≡ none)
cond_none true k o e = absurd (let z : ◌≡◌ {A = ℕ} 0 1 = cc in omega arith)
cond_none false k o e = (refl, e)

-- the last rule, which does not hold
pub only_rule : (b : Bool) (k : ℕ) → cond b (some k) none ≡ none → b ≡ false
only_rule b k e = (cond_none b k none e).0

-- ---- two lists

module _ (ys : List Rule) where
  pub first_none : (xs : List Rule) → first_of xs ≡ none → first_of (xs ++ ys) ≡ first_of ys
  first_none [] e = refl
  first_none (x ∷ xs) e =
      let u = cond_none x.condition x.number (first_of xs) e in
      ap (λ (b : Bool). cond b (some x.number) (first_of (xs ++ ys))) u.0 ∙ first_none xs u.1

  pub first_some_lem : (xs : List Rule) {n : ℕ} → first_of xs ≡ some n → first_of (xs ++ ys) ≡ some n
  first_some_lem [] e = absurd (let z : ◌≡◌ {A = ℕ} 0 1 = cc in omega arith)
  first_some_lem (x ∷ xs) {n} e = go x.condition e (first_some_lem xs)
    where
      go : (b : Bool) → cond b (some x.number) (first_of xs) ≡ some n → (first_of xs ≡ some n → first_of (xs ++ ys) ≡ some n)
          → cond b (some x.number) (first_of (xs ++ ys)) ≡ some n
      go true k r = k
      go false k r = r k

  -- both lists, from a check of each
  pub first_both : (xs : List Rule) {p q o : Option ℕ} → first_of xs ≡ p → first_of ys ≡ q → o ≡ first_some p q → first_of (xs ++ ys) ≡ o
  first_both xs {p} e d h = go p e ∙ ap (first_some p) d ∙ sym h
    where
      go : (p : Option ℕ) → first_of xs ≡ p → first_of (xs ++ ys) ≡ first_some p (first_of ys)
      go none v = first_none xs v
      go (some n) v = first_some_lem xs v

  -- none of both is none of each
  pub none_left : (xs : List Rule) → first_of (xs ++ ys) ≡ none → first_of xs ≡ none
  none_left [] e = refl
  none_left (x ∷ xs) e =
      let u = cond_none x.condition x.number (first_of (xs ++ ys)) e in
      ap (λ (b : Bool). cond b (some x.number) (first_of xs)) u.0 ∙ none_left xs u.1

  pub none_right : (xs : List Rule) → first_of (xs ++ ys) ≡ none → first_of ys ≡ none
  none_right xs e = sym (first_none xs (none_left xs e)) ∙ e

  -- ---- a check of the first list, with what it answers

  pub check_passed : (xs : List Rule) {A : Type 0} {d : Result A Refusal} {a : A} → first_of xs ≡ done_option d → d ≡ Ok a → first_of (xs ++ ys) ≡ first_of ys
  check_passed xs e p = first_none xs (e ∙ ap done_option p)

  pub check_refused : (xs : List Rule) {A : Type 0} {d : Result A Refusal} {f : Refusal} → first_of xs ≡ done_option d → d ≡ Err f → first_of (xs ++ ys) ≡ some (refusal_number f)
  check_refused xs e p = first_some_lem xs (e ∙ ap done_option p)

-- ---- what a refusal leaves

pub settle_some : {A : Type 0} {o : Option ℕ} {n : ℕ} (after : ℕ × A) (before : A) → o ≡ some n → settle o after before ≡ (n, before)
settle_some after before e = ap (λ o. settle o after before) e

pub settle_none : {A : Type 0} {o : Option ℕ} (after : ℕ × A) (before : A) → o ≡ none → settle o after before ≡ after
settle_none after before e = ap (λ o. settle o after before) e
