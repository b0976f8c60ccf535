-- What is printed for a refusal, and what a line that passes has. Assumes nothing.
use mathlib.Core.Path.{◌≡◌, refl, ap, ◌∙◌}
use mathlib.Core.Bool.{Bool, true, false, not, cond}
use mathlib.Core.List.{List, [], ◌∷◌, ◌++◌}
use mathlib.Core.Option.{Option, none, some}
use Prim.Native.Nat.{ℕ, ◌≤◌}
use lib.Dec.{eqb, leb}
use lib.ListN.{length, replicate}
use borrow.Author.Tests.{le-leb}
use Rattle.answers.specs.Rules.{Rule, rule, first_of}
use Rattle.answers.proofs.Rules.{first_none, first_some_lem}
use Rattle.text.specs.Digits.{all_digits, decode}
use Rattle.frame.specs.Frame.{together, half, called, kind_rules, halves_rules, Answer, refused, answered, unless_refused, frame_answer}
use Rattle.line.specs.Line.{line_rules, line_answer, printed, shown, print_line}

-- ---- what is printed for a refusal

shown_first : {o : Option ℕ} {n : ℕ} (a : Answer) → o ≡ some n → shown (unless_refused o a) ≡ printed n []
unfolding shown
shown_first a e = ap (λ (o : Option ℕ). shown (unless_refused o a)) e

shown_none : {o : Option ℕ} (a : Answer) → o ≡ none → shown (unless_refused o a) ≡ shown a
shown_none a e = ap (λ (o : Option ℕ). shown (unless_refused o a)) e

module _ (f : List ℕ) where
  pub frame_refused : {n : ℕ} → first_of (kind_rules f ++ halves_rules (together f)) ≡ some n → shown (frame_answer f) ≡ printed n []
  unfolding frame_answer
  frame_refused e = shown_first (answered (called f (replicate (half f) 0))) e

  pub frame_passes : first_of (kind_rules f ++ halves_rules (together f)) ≡ none → shown (frame_answer f) ≡ shown (answered (called f (replicate (half f) 0)))
  unfolding frame_answer
  frame_passes e = shown_none (answered (called f (replicate (half f) 0))) e

module _ (line : List ℕ) where
  abbrev digit_rule : List Rule
  digit_rule = rule 12 (not (all_digits line)) ∷ []

  pub line_refused : {n : ℕ} → first_of (line_rules (length line)) ≡ some n → print_line line ≡ printed n []
  unfolding print_line line_answer
  line_refused e = shown_first (frame_answer (decode line)) (first_some_lem digit_rule (line_rules (length line)) e)

  module _ (e : first_of (line_rules (length line)) ≡ none) where
    pub digits_refused : all_digits line ≡ false → print_line line ≡ printed 12 []
    unfolding print_line line_answer
    digits_refused d = shown_first (frame_answer (decode line)) (first_none digit_rule (line_rules (length line)) e ∙ ap (λ b. first_of (rule 12 (not b) ∷ [])) d)

    pub digits_pass : all_digits line ≡ true → print_line line ≡ shown (frame_answer (decode line))
    unfolding print_line line_answer
    digits_pass d = shown_none (frame_answer (decode line)) (first_none digit_rule (line_rules (length line)) e ∙ ap (λ b. first_of (rule 12 (not b) ∷ [])) d)

-- ---- a long line is refused whatever its bytes are

too_long : (a b : Bool) (o : Option ℕ) (z : Answer) → b ≡ true → unless_refused (cond a (some 12) (cond b (some 12) o)) z ≡ refused 12
too_long true b o z e = refl
too_long false b o z e = ap (λ (t : Bool). unless_refused (cond t (some 12) o) z) e

pub long_line : (line : List ℕ) → 16499 ≤ length line → print_line line ≡ shown (refused 12)
unfolding print_line line_answer
long_line line h =
    ap shown (too_long (eqb (length line) 0) (leb 16499 (length line)) _ (frame_answer (decode line)) (le-leb 16499 (length line) h))
