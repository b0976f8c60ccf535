-- A turn of the program: the store for a line, and the theorem `turns_whole`. Assumes nothing.
use mathlib.Core.Path.{◌≡◌, refl, sym, ap, ap₂, ◌∙◌, subst}
use mathlib.Core.Bool.{Bool, true, false, cond}
use mathlib.Core.List.{List, [], ◌∷◌, ◌++◌, append-nil}
use Prim.Native.Nat.{ℕ, zero, suc, ◌-◌, ◌≤◌}
use native.Mathlib.Nat.{le_trans}
use native.Mathlib.Omega.{arith}
use lib.IntN.{ℤ, pos, negsuc, nat_abs}
use mir.Syntax.{w64}
use mir.Val.{Fits}
use Rattle.std.specs.Int.{FitsUnsignedBits}
use lib.ListN.{length, take, drop, replicate}
use lib.Seq.{length-take-le, take_at}
use Rattle.input.specs.Lines.{lines_from, at_end, print_lines, print_input, print_ended, held, Fed, fed, finished}
use Rattle.input.specs.Turn.{Read, failed, ended, gave, read_of, Turned, turned, stored, turn_call, if_read_on, printed_by, reads_of, input_of, ends, TurnsWhole}
use Rattle.line.specs.Inner.{Prints}
use Rattle.input.specs.Inner.{Feeds}
use Rattle.input.specs.declared.Next.TheVariants.{ReadOn, Ended, Failed}
use Rattle.input.specs.declared.Outcome.{Outcome}
use Rattle.input.proofs.Feeding.{carried, buffer, finished_line}

-- ---- the store for a line

-- cleared behind what is held
pub stored_is : (line : List ℕ) (u : ℕ) {rest : List ℕ} → length line ≡ 16499 → u ≤ 16499 → take u line ≡ rest
    → (take u line ++ replicate (length line - u) 0 ≡ stored rest) × (u ≡ length rest)
unfolding stored
stored_is line u {rest} long most e =
    let same : u ≡ length rest = sym (length-take-le u line (omega arith)) ∙ ap length e in
    let behind : length line - u ≡ 16499 - length rest = omega arith in
    (ap₂ (λ (l : List ℕ) (k : ℕ). l ++ replicate k 0) e behind, same)

-- a buffer fed, by what it is
pub refeed : {f g : Fed} (u p : ℕ) (line before after : List ℕ) (m : ℕ) {k : ℕ} → f ≡ g → k ≤ m → Feeds f u line p before after k → Feeds g u line p before after m
refeed u p line before after m e h x = subst (λ (z : Fed). Feeds z u line p before after m) e (x.0, x.1, (x.2.0, x.2.1, le_trans x.2.2 h))

-- ---- a turn

-- what `usize::try_from` says of the number that a read answered
pub read_failed : (got : ℤ) (buffer : List ℕ) → Fits w64 (nat_abs got) → (FitsUnsignedBits 64 got → ⊥) → read_of got buffer ≡ failed
unfolding read_of
read_failed (pos n) buffer h e = absurd (e h.fits)
read_failed (negsuc n) buffer h e = refl

pub read_ended : (got : ℤ) (n : ℕ) (buffer : List ℕ) → FitsUnsignedBits 64 got × (n ≡ nat_abs got) → n ≡ 0 → read_of got buffer ≡ ended
unfolding read_of
read_ended (pos zero) n buffer e z = refl
read_ended (pos (suc k)) n buffer e z = absurd (omega (arith, e.1))
read_ended (negsuc k) n buffer e z = absurd e.0

pub read_gave : (got : ℤ) (n : ℕ) (buffer : List ℕ) → FitsUnsignedBits 64 got × (n ≡ nat_abs got) → (n ≡ 0 → ⊥) → read_of got buffer ≡ gave (take n buffer)
unfolding read_of
read_gave (pos zero) n buffer e z = absurd (z e.1)
read_gave (pos (suc k)) n buffer e z = ap (λ (m : ℕ). gave (take m buffer)) (sym e.1)
read_gave (negsuc k) n buffer e z = absurd e.0

module _ (got : ℤ) (buffer line : List ℕ) (used : ℕ) (out : List ℕ) where
  turn_is : {t : Turned} {r : Read} {u p : ℕ} {line' out' : List ℕ} → read_of got buffer ≡ r → turned (take used line) r ≡ t
      → line' ≡ stored t.rest → u ≡ length t.rest → out' ≡ t.printed ++ drop p out → p ≡ length t.printed
      → turn_call got buffer line used out ≡ (record { used = u; printed = p; next = t.next }, line', out')
  unfolding turn_call
  turn_is {t} {r} {u} {p} er et el eu eo ep =
      let same : turned (take used line) (read_of got buffer) ≡ t = ap (turned (take used line)) er ∙ et in
      ap (λ (x : Turned). left x) same
      ∙ (λ i. (record { used = sym eu i; printed = sym ep i; next = t.next }, sym el i, sym (eo ∙ ap (λ (k : ℕ). t.printed ++ drop k out) ep) i))
    where
      left : Turned → Outcome × List ℕ × List ℕ
      left x = (record { used = length x.rest; printed = length x.printed; next = x.next }, stored x.rest, x.printed ++ drop (length x.printed) out)

  module _ (long : length line ≡ 16499) {line' : List ℕ} (none : line' ≡ take 0 line ++ replicate (length line - 0) 0) where
    stored_none : line' ≡ stored []
    stored_none = none ∙ (stored_is line 0 long (omega arith) refl).0

    pub turn_failed : read_of got buffer ≡ failed → turn_call got buffer line used out ≡ (record { used = 0; printed = 0; next = Failed }, line', out)
    unfolding turned
    turn_failed e = turn_is e refl stored_none refl refl refl

    pub turn_ended : {p m : ℕ} {out' : List ℕ} → read_of got buffer ≡ ended → Prints (finished (take used line)) out out' p m
        → turn_call got buffer line used out ≡ (record { used = 0; printed = p; next = Ended }, line', out')
    unfolding turned
    turn_ended e x = turn_is e refl stored_none refl x.0 x.1

  pub turn_fed : (n : ℕ) {u p m : ℕ} {line' out' : List ℕ} → read_of got buffer ≡ gave (take n buffer)
      → Feeds (fed (take used line) (take n buffer)) u line' p out out' m
      → turn_call got buffer line used out ≡ (record { used = u; printed = p; next = ReadOn }, line', out')
  unfolding turned
  turn_fed n e x = turn_is e refl x.0 x.1 x.2.0 x.2.1

-- ---- the theorem

-- turns over what is held, whatever stands behind it in the store and in the output
unfoldable turns : List ℕ → List Read → List ℕ
turns line [] = []
turns line (r ∷ rs) = let t : Turned = turned line r in t.printed ++ if_read_on t.next (turns t.rest rs)

printed_turns : (reads : List (ℤ × List ℕ)) (line : List ℕ) (used : ℕ) (out : List ℕ) → printed_by line used out reads ≡ turns (take used line) (reads_of reads)
unfolding printed_by turn_call stored turns reads_of
printed_turns [] line used out = refl
printed_turns ((got, buffer) ∷ reads) line used out =
    let t : Turned = turned (take used line) (read_of got buffer) in
    let n : ℕ = length t.rest in
    ap₂ (λ (p q : List ℕ). p ++ if_read_on t.next q)
    (take_at t.printed (drop (length t.printed) out) (length t.printed) refl)
    (printed_turns reads (stored t.rest) n (t.printed ++ drop (length t.printed) out)
    ∙ ap (λ (l : List ℕ). turns l (reads_of reads)) (take_at t.rest (replicate (16499 - n) 0) n refl))

-- what becomes of what stands behind the last line feed
unfoldable last_of : Bool → List ℕ → List (List ℕ)
last_of true line = at_end line
last_of false line = []

turns_line : (rs : List Read) (line : List ℕ) → turns (held line) rs ≡ print_lines (lines_from (last_of (ends rs)) line (input_of rs))
unfolding turns turned ends input_of last_of lines_from print_lines
turns_line [] line = refl
turns_line (failed ∷ rs) line = refl
turns_line (ended ∷ rs) line = append-nil (finished (held line)) ∙ finished_line line
turns_line (gave b ∷ rs) line =
    let r = buffer line b in
    ap (λ (l : List ℕ). (fed (held line) b).printed ++ l)
    (ap (λ (l : List ℕ). turns l rs) r.rest ∙ turns_line rs (carried line b))
    ∙ r.printed (last_of (ends rs)) (input_of rs)

ended_or_not : (b : Bool) (input : List ℕ) → print_lines (lines_from (last_of b) [] input) ≡ cond b (print_input input) (print_ended input)
unfolding last_of print_input print_ended
ended_or_not true input = refl
ended_or_not false input = refl

pub turns_whole : TurnsWhole
unfolding held
turns_whole line out reads = printed_turns reads line 0 out ∙ turns_line (reads_of reads) [] ∙ ended_or_not (ends (reads_of reads)) (input_of (reads_of reads))
