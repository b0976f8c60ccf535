-- Feeding any cuts of an input prints what the whole input does: the theorem `feeds_whole`. Assumes nothing.
use mathlib.Core.Path.{◌≡◌, refl, sym, ap, ap₂, ◌∙◌}
use mathlib.Core.Bool.{Bool, true, false, cond}
use mathlib.Core.List.{List, [], ◌∷◌, ◌++◌, append_assoc, append-nil}
use Prim.Native.Nat.{ℕ, zero, suc, ◌≤◌, ◌<◌}
use native.Mathlib.Decide.{dec_le}
use native.Mathlib.Omega.{arith}
use lib.Dec.{eqb}
use lib.ListN.{length, take, length-take}
use lib.Seq.{take_all, length-take-le}
use borrow.Author.Tests.{eq-eqb, ne_eqb}
use Rattle.line.specs.Line.{print_line}
use Rattle.line.proofs.Refusals.{long_line}
use Rattle.input.specs.Lines.{lines_from, at_end, print_lines, print_input, print_ended, held, printing, fed, finished, fed_all, concat, FeedsWhole}

-- ---- what is held of a line is enough

-- it prints what the line does
pub held_enough : (line : List ℕ) → print_line (held line) ≡ print_line line
unfolding held
held_enough line = go (dec_le (length line) 16499)
  where
    go : Dec (length line ≤ 16499) → print_line (take 16499 line) ≡ print_line line
    go (yes h) = ap print_line (take_all 16499 line h)
    go (no h) =
        let e : length (take 16499 line) ≡ 16499 = length-take-le 16499 line (omega arith) in
        long_line (take 16499 line) (omega arith) ∙ sym (long_line line (omega arith))

-- ---- holding in steps

take_step : (n : ℕ) (l m : List ℕ) → take n (take n l ++ m) ≡ take n (l ++ m)
take_step zero l m = refl
take_step (suc n) [] m = refl
take_step (suc n) (x ∷ l) m = ap (λ (k : List ℕ). x ∷ k) (take_step n l m)

pub held_step : (line m : List ℕ) → held (held line ++ m) ≡ held (line ++ m)
unfolding held
held_step line m = take_step 16499 line m

pub held_short : (line : List ℕ) → length line ≤ 16499 → held line ≡ line
unfolding held
held_short line h = take_all 16499 line h

-- ---- a buffer

-- the line that has not ended after a buffer, whole
unfoldable pub carried : List ℕ → List ℕ → List ℕ
carried line [] = line
carried line (c ∷ cs) = cond (eqb c 10) (carried [] cs) (carried (line ++ (c ∷ [])) cs)

-- what is held is held of that line, and what is printed stands before what the rest prints
pub record Buffer (line b : List ℕ) : Type 0 where
  pub rest : (fed (held line) b).rest ≡ held (carried line b)
  pub printed : (last : List ℕ → List (List ℕ)) (more : List ℕ)
      → (fed (held line) b).printed ++ print_lines (lines_from last (carried line b) more) ≡ print_lines (lines_from last line (b ++ more))

module _ (line : List ℕ) (c : ℕ) (cs : List ℕ) where
  buffer_feed : eqb c 10 ≡ true → Buffer [] cs → Buffer line (c ∷ cs)
  unfolding fed lines_from print_lines carried held
  buffer_feed e r =
      record {
        rest = rw e r.rest;
        printed = λ last more. rw e
            (append_assoc (print_line (held line)) (fed [] cs).printed (print_lines (lines_from last (carried [] cs) more))
            ∙ ap₂ ◌++◌ (held_enough line) (r.printed last more));
      }

  buffer_byte : eqb c 10 ≡ false → Buffer (line ++ (c ∷ [])) cs → Buffer line (c ∷ cs)
  unfolding fed lines_from print_lines carried
  buffer_byte e r =
      record {
        rest = rw (e, held_step) r.rest;
        printed = λ last more. rw (e, held_step) (r.printed last more);
      }

pub buffer : (line b : List ℕ) → Buffer line b
unfolding fed carried
buffer line [] = record { rest = refl; printed = λ last more. refl }
buffer line (c ∷ cs) = go (eqb c 10) refl (λ l. buffer l cs)
  where
    go : (t : Bool) → eqb c 10 ≡ t → ((l : List ℕ) → Buffer l cs) → Buffer line (c ∷ cs)
    go true e r = buffer_feed line c cs e (r [])
    go false e r = buffer_byte line c cs e (r (line ++ (c ∷ [])))

-- ---- the theorem

-- a line that is not empty is printed at the end of the input
pub finished_some : (line : List ℕ) → 0 < length line → finished line ≡ print_line line
unfolding finished
finished_some line h = rw (ne_eqb (length line) 0 (λ e. omega arith)) refl

pub finished_none : (line : List ℕ) → length line ≡ 0 → finished line ≡ []
unfolding finished
finished_none line e = rw (eq-eqb (length line) 0 e) refl

last_line : (line : List ℕ) → 0 < length line → print_lines (at_end line) ≡ print_line line
unfolding at_end print_lines
last_line line h = rw (ne_eqb (length line) 0 (λ e. omega arith)) (append-nil (print_line line))

pub finished_line : (line : List ℕ) → finished (held line) ≡ print_lines (at_end line)
unfolding finished at_end print_lines held
finished_line [] = refl
finished_line (c ∷ cs) =
    let h : 0 < length (take 16499 (c ∷ cs)) = simp length-take (omega arith) in
    finished_some (take 16499 (c ∷ cs)) h ∙ held_enough (c ∷ cs) ∙ sym (last_line (c ∷ cs) (omega arith))

feeds_line : (bs : List (List ℕ)) (line : List ℕ) → fed_all (held line) bs ≡ print_lines (lines_from at_end line (concat bs))
unfolding fed_all lines_from
feeds_line [] line = finished_line line
feeds_line (b ∷ bs) line =
    let r = buffer line b in
    ap (λ (l : List ℕ). (fed (held line) b).printed ++ l)
    (ap (λ (l : List ℕ). fed_all l bs) r.rest ∙ feeds_line bs (carried line b))
    ∙ r.printed at_end (concat bs)

pub feeds_whole : FeedsWhole
unfolding print_input held
feeds_whole bs = feeds_line bs []

-- ---- an input in two parts, and what is printed of it so far

fed_append_go : (line : List ℕ) (c : ℕ) (a b : List ℕ) (t : Bool) → eqb c 10 ≡ t
    → ((l : List ℕ) → fed l (a ++ b) ≡ printing (fed l a).printed (fed (fed l a).rest b))
    → fed line (c ∷ (a ++ b)) ≡ printing (fed line (c ∷ a)).printed (fed (fed line (c ∷ a)).rest b)
unfolding fed
fed_append_go line c a b true e r =
    rw e
    (ap (printing (print_line line)) (r [])
    ∙ ap (λ (p : List ℕ). record { rest = (fed (fed [] a).rest b).rest; printed = p })
    (sym (append_assoc (print_line line) (fed [] a).printed (fed (fed [] a).rest b).printed)))
fed_append_go line c a b false e r = rw e (r (held (line ++ (c ∷ []))))

pub fed_append : (line a b : List ℕ) → fed line (a ++ b) ≡ printing (fed line a).printed (fed (fed line a).rest b)
unfolding fed
fed_append line [] b = refl
fed_append line (c ∷ a) b = fed_append_go line c a b (eqb c 10) refl (λ l. fed_append l a b)

pub print_ended_is : (input : List ℕ) → print_ended input ≡ (fed [] input).printed
unfolding print_ended held lines_from print_lines
print_ended_is input =
    ap (λ (l : List ℕ). print_lines (lines_from (λ line. []) [] l)) (sym (append-nil input))
    ∙ sym ((buffer [] input).printed (λ line. []) [])
    ∙ append-nil (fed [] input).printed

pub print_input_is : (input : List ℕ) → print_input input ≡ (fed [] input).printed ++ finished (fed [] input).rest
unfolding fed_all
print_input_is input = ap print_input (sym (append-nil input)) ∙ sym (feeds_whole (input ∷ []))
