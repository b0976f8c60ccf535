-- What a read, a turn and a row of turns do to the bytes that the reader has left and to those that the writer holds.
use Rattle.std.proofs.Common.{◌≡◌, ℕ, zero, suc, ◌+◌, ◌-◌, ◌^◌, ◌<◌, List, [], ◌∷◌, ◌++◌, true, false, None, Some, refl, sym, ap, ◌∙◌, subst, append_assoc, append-nil, length, take, drop, arith, take-add, Result, Ok, Err, OnErr}
use lib.IntN.{ℤ, pos, negsuc}
use lib.ListN.{replicate, take-append-drop}
use lib.Seq.{take_at}
use Rattle.std.proofs.lemmas.List.{take_rest}
use lib.Signed.{mag}
use mir.Syntax.{w64}
use mir.Val.{to_z, of_z}
use Rattle.std.proofs.Math.Facts.{to_z-of_z}
use Rattle.std.specs.declared.option.Option.{Option}
use Rattle.std.specs.Io.KnownBytes.{Appends, Consumes, Keeps, IsAtEnd}
use Rattle.std.proofs.KnownBytes.{Appends-nil, Appends-trans, Consumes-nil, Consumes-trans, Consumes-kept, Consumes-whole, Appends-kept}
use Rattle.input.specs.Lines.{print_input, print_ended, Fed, fed, printing, finished}
use Rattle.input.specs.Turn.{Read, failed, ended, gave, read_of, Turned, turned, stored, turn_call}
use Rattle.input.specs.declared.Outcome.{Outcome}
use Rattle.input.specs.declared.Next.TheVariants as N
use Rattle.input.proofs.Feeding.{fed_append, print_ended_is, print_input_is}
use Rattle.frames.specs.declared.Failure.{Failure}
use Rattle.frames.specs.declared.Failure.TheVariants as F
use Rattle.frames.specs.Answered.{AnswersAll, AnswersEnded, AnswersPart, AnswersTurns, AnswersUntil, Fails, Gives, IsWrite, Turns, WritesPart}

-- ---- a read

pub gives_bytes : (left left' : Option (List ℕ)) (n : ℕ) (b : List ℕ) → Consumes left left' (take n b) → (n ≡ 0 → IsAtEnd left') → Gives left left' (read_of (pos n) b)
unfolding read_of
gives_bytes left left' zero b p e = (p, e refl)
gives_bytes left left' (suc n) b p e = p

pub gives_none : (left left' : Option (List ℕ)) (b : List ℕ) → Keeps left left' → Gives left left' (read_of (negsuc 0) b)
unfolding read_of
gives_none left left' b p = p

-- ---- a write

take_twice : (l : List ℕ) (n : ℕ) → take n (take n l) ≡ take n l
take_twice l zero = refl
take_twice [] (suc n) = refl
take_twice (x ∷ l) (suc n) = ap (λ (k : List ℕ). x ∷ k) (take_twice l n)

-- n bytes behind the first w
pub take_part : (text : List ℕ) (w n : ℕ) → take w text ++ take n (take (length text - w) (drop w text)) ≡ take (w + n) text
take_part text w n = ap (λ (l : List ℕ). take w text ++ take n l) (take_rest text w) ∙ sym (take-add w n text)

-- what is appended is nothing
pub keeps_none : (written written' : Option (List ℕ)) → Appends written written' [] → Keeps written written'
keeps_none None written' p = tt
keeps_none (Some xs) None p = absurd p
keeps_none (Some xs) (Some ys) p = p ∙ append-nil xs

-- the whole text is written, and a flush failed
pub writes_all : (written written' written'' : Option (List ℕ)) (text : List ℕ) (n : ℕ) → Appends written written' (take n text) → Keeps written' written'' → WritesPart written written'' (take n text)
writes_all written written' written'' text n p k = (n, subst (Appends written written'') (sym (take_twice text n)) (Appends-kept written written' written'' (take n text) p k))

pub writes_nothing : (written written' : Option (List ℕ)) (text : List ℕ) → Keeps written written' → WritesPart written written' text
writes_nothing written written' text p = (0, Appends-kept written written written' [] (Appends-nil written) p)

pub on_err : {A E : Type 0} (r : Result A E) {P : Type 0} → P → OnErr r P
on_err (Ok x) p = tt
on_err (Err e) p = p

-- ---- a turn

-- what `turn` gave, by the bytes
pub record Turn (got : ℤ) (buffer line : List ℕ) (used : ℕ) (o : Outcome) (line' out' : List ℕ) : Type 0 where
  pub rest : take o.used line' ≡ (turned (take used line) (read_of got buffer)).rest
  pub printed : take o.printed out' ≡ (turned (take used line) (read_of got buffer)).printed
  pub next : o.next ≡ (turned (take used line) (read_of got buffer)).next

pub turn_is : (got : ℤ) (buffer line : List ℕ) (used : ℕ) (out : List ℕ) (o : Outcome) (line' out' : List ℕ)
    → turn_call got buffer line used out ≡ (o, line', out') → Turn got buffer line used o line' out'
unfolding turn_call stored
turn_is got buffer line used out o line' out' e =
    let t : Turned = turned (take used line) (read_of got buffer) in
    subst (λ (x : Outcome × List ℕ × List ℕ). Turn got buffer line used x.0 x.1 x.2) e
    (record {
      rest = take_at t.rest (replicate (16499 - length t.rest) 0) (length t.rest) refl;
      printed = take_at t.printed (drop (length t.printed) out) (length t.printed) refl;
      next = refl;
    })

-- `turn` gets what the machine reads back from the bits of `got`
pub turn_got : (got : ℤ) (buffer line : List ℕ) (used : ℕ) (out : List ℕ) (o : Outcome) (line' out' : List ℕ) → mag got < 2 ^ 63
    → turn_call (to_z w64 (of_z w64 got)) buffer line used out ≡ (o, line', out') → Turn got buffer line used o line' out'
turn_got got buffer line used out o line' out' fits e =
    turn_is got buffer line used out o line' out' (ap (λ (z : ℤ). turn_call z buffer line used out) (sym (to_z-of_z {w = w64} (record { sfits = fits }))) ∙ e)

-- a turn that would end with a failure read nothing and wrote nothing
pub turn_fails : (held : List ℕ) (r : Read) (left left' written written' : Option (List ℕ)) → N.Failed ≡ (turned held r).next → Gives left left' r → Appends written written' (turned held r).printed
    → Keeps left left' × Keeps written written'
unfolding turned
turn_fails held failed left left' written written' e gives put = (gives, keeps_none written written' put)
turn_fails held ended left left' written written' e gives put = absurd (let z : ◌≡◌ {A = ℕ} 0 1 = cc in omega arith)
turn_fails held (gave b) left left' written written' e gives put = absurd (let z : ◌≡◌ {A = ℕ} 0 1 = cc in omega arith)

-- one that ends holds nothing
pub turn_ends : (held : List ℕ) (r : Read) (left left' written written' : Option (List ℕ)) → N.Ended ≡ (turned held r).next → Gives left left' r → Appends written written' (turned held r).printed
    → Turns held [] false left left' written written'
unfolding turned
turn_ends held failed left left' written written' e gives put = absurd (let z : ◌≡◌ {A = ℕ} 0 1 = cc in omega arith)
turn_ends held ended left left' written written' e gives put = (ended, gives, refl, refl, put)
turn_ends held (gave b) left left' written written' e gives put = absurd (let z : ◌≡◌ {A = ℕ} 0 1 = cc in omega arith)

pub write_fails : (f : Failure) → IsWrite f → (held : List ℕ) (left left' written written' : Option (List ℕ)) (r : Read) → Gives left left' r
    → WritesPart written written' (turned held r).printed → Fails f held left left' written written'
write_fails F.Read e held left left' written written' r gives part = absurd e
write_fails (F.Write kind) e held left left' written written' r gives part = (r, gives, part)
write_fails (F.TooManyReads turns) e held left left' written written' r gives part = absurd e

-- ---- a row of turns that read on

-- what was read and printed, and what is held of a line that has not ended
pub record Progress (left₀ left written₀ written : Option (List ℕ)) (held : List ℕ) : Type 0 where
  pub input : List ℕ
  pub consumed : Consumes left₀ left input
  pub printed : Appends written₀ written (fed [] input).printed
  pub rest : held ≡ (fed [] input).rest

pub progress_start : (left written : Option (List ℕ)) → Progress left left written written []
unfolding fed
progress_start left written = record {
  input = [];
  consumed = Consumes-nil left;
  printed = Appends-nil written;
  rest = refl;
}

-- the front of what a last turn prints is the front of what the whole input prints
front_is : (p q s : List ℕ) (n : ℕ) → (m : ℕ) × (p ++ take n q ≡ take m ((p ++ q) ++ s))
front_is p q s n =
    let t = p ++ take n q in
    let e : (p ++ q) ++ s ≡ t ++ (drop n q ++ s) = ap (λ (l : List ℕ). (p ++ l) ++ s) (sym (take-append-drop n q)) ∙ simp append_assoc in
    (length t, sym (ap (take (length t)) e ∙ take_at t (drop n q ++ s) (length t) refl))

module _ {left₀ left written₀ written : Option (List ℕ)} {held : List ℕ} (p : Progress left₀ left written₀ written held) where
  -- a buffer more
  more_is : (b : List ℕ) → fed [] (p.input ++ b) ≡ printing (fed [] p.input).printed (fed held b)
  more_is b = fed_append [] p.input b ∙ ap (λ (h : List ℕ). printing (fed [] p.input).printed (fed h b)) (sym p.rest)

  pub progress_on : (left' written' : Option (List ℕ)) (held' : List ℕ) → Turns held held' true left left' written written' → Progress left₀ left' written₀ written' held'
  unfolding turned
  progress_on left' written' held' (failed, gives, rest, next, put) = absurd (let z : ◌≡◌ {A = ℕ} 0 1 = cc in omega arith)
  progress_on left' written' held' (ended, gives, rest, next, put) = absurd (let z : ◌≡◌ {A = ℕ} 0 1 = cc in omega arith)
  progress_on left' written' held' (gave b, gives, rest, next, put) = record {
    input = p.input ++ b;
    consumed = Consumes-trans left₀ left left' p.input b p.consumed gives;
    printed = subst (Appends written₀ written') (ap (λ (f : Fed). f.printed) (sym (more_is b))) (Appends-trans written₀ written written' (fed [] p.input).printed (fed held b).printed p.printed put);
    rest = rest ∙ ap (λ (f : Fed). f.rest) (sym (more_is b));
  }

  whole_is : print_input p.input ≡ (fed [] p.input).printed ++ finished held
  whole_is = print_input_is p.input ∙ ap (λ (h : List ℕ). (fed [] p.input).printed ++ finished h) (sym p.rest)

  pub progress_end : (left' written' : Option (List ℕ)) (held' : List ℕ) → Turns held held' false left left' written written' → AnswersAll left₀ left' written₀ written'
  unfolding turned
  progress_end left' written' held' (failed, gives, rest, next, put) = absurd (let z : ◌≡◌ {A = ℕ} 0 1 = cc in omega arith)
  progress_end left' written' held' (gave b, gives, rest, next, put) = absurd (let z : ◌≡◌ {A = ℕ} 0 1 = cc in omega arith)
  progress_end left' written' held' (ended, gives, rest, next, put) = (
    gives.1,
    Consumes-whole left₀ left' (p.input ++ []) (λ input. Appends written₀ written' (print_input input))
        (Consumes-trans left₀ left left' p.input [] p.consumed gives.0) gives.1
        (subst (Appends written₀ written') (sym (ap print_input (append-nil p.input) ∙ whole_is)) (Appends-trans written₀ written written' (fed [] p.input).printed (finished held) p.printed put)),
  )

  pub progress_ended : AnswersEnded left₀ left written₀ written
  progress_ended = (p.input, p.consumed, subst (Appends written₀ written) (sym (print_ended_is p.input)) p.printed)

  -- q is printed in part; with it and s the input is answered
  part_is : (left' written' : Option (List ℕ)) (b q s : List ℕ) (n : ℕ) → Consumes left left' b → Appends written written' (take n q)
      → print_input (p.input ++ b) ≡ ((fed [] p.input).printed ++ q) ++ s → AnswersPart left₀ left' written₀ written'
  part_is left' written' b q s n gives put e =
      let f = front_is (fed [] p.input).printed q s n in (
        p.input ++ b,
        f.0,
        Consumes-trans left₀ left left' p.input b p.consumed gives,
        subst (Appends written₀ written') (f.1 ∙ ap (take f.0) (sym e)) (Appends-trans written₀ written written' (fed [] p.input).printed (take n q) p.printed put),
      )

  pub progress_fails : (left' written' : Option (List ℕ)) (f : Failure) → Fails f held left left' written written' → AnswersTurns f left₀ left' written₀ written'
  unfolding turned
  progress_fails left' written' F.Read (kept, same) =
      let e = progress_ended in
      (e.0, Consumes-kept left₀ left left' e.0 e.1 kept, Appends-kept written₀ written written' (print_ended e.0) e.2 same)
  progress_fails left' written' (F.Write kind) (failed, gives, (n, put)) =
      part_is left' written' [] [] (finished held) n (Consumes-kept left left left' [] (Consumes-nil left) gives) put
      (ap print_input (append-nil p.input) ∙ whole_is ∙ ap (λ (l : List ℕ). l ++ finished held) (sym (append-nil (fed [] p.input).printed)))
  progress_fails left' written' (F.Write kind) (ended, gives, (n, put)) =
      part_is left' written' [] (finished held) [] n gives.0 put
      (ap print_input (append-nil p.input) ∙ whole_is ∙ sym (append-nil ((fed [] p.input).printed ++ finished held)))
  progress_fails left' written' (F.Write kind) (gave b, gives, (n, put)) =
      let f = fed [] (p.input ++ b) in
      part_is left' written' b (fed held b).printed (finished f.rest) n gives put
      (print_input_is (p.input ++ b) ∙ ap (λ (g : Fed). g.printed ++ finished f.rest) (more_is b))
  progress_fails left' written' (F.TooManyReads turns) x = absurd x

-- too many turns are no failure of one
pub until_turns : (f : Failure) (left left' written written' : Option (List ℕ)) → AnswersTurns f left left' written written' → AnswersUntil f left left' written written'
until_turns F.Read left left' written written' a = a
until_turns (F.Write kind) left left' written written' a = a
until_turns (F.TooManyReads turns) left left' written written' a = absurd a
