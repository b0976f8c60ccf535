-- What each answer of the code does to the bit. Assumes nothing.
use mathlib.Core.Path.{◌≡◌, refl, sym, ap, ◌∙◌}
use mathlib.Core.Bool.{Bool, true, false, cond}
use Rattle.std.specs.Prelude.{Result, Ok, Err}
use Prim.Native.Nat.{ℕ}
use lib.Dec.{eqb}
use borrow.Author.Tests.{ne_eqb}
use Rattle.mode.specs.Scheme.{Place, local, tag, remote}
use Rattle.answers.specs.declared.Found.{Found}
use Rattle.answers.specs.declared.Found.TheVariants as F
use Rattle.answers.specs.declared.Place as E
use Rattle.answers.specs.declared.Refusal.{Refusal}
use Rattle.answers.specs.declared.Refusal.TheVariants.{Lost, Clashing}
use Rattle.answers.specs.Answers.{doubt_number, refusal_number, place_named, done_number, judged_number}
use Rattle.answers.proofs.Numbers.{refusal_one}
use Rattle.history.specs.Volume.{mend}
use Rattle.suspects.specs.declared.Mark.{Mark}
use Rattle.suspects.specs.declared.Mark.TheVariants.{Clears, Sets, Keeps}
use Rattle.suspects.specs.Marks.{is_finished, lost_or_clashing, marks}
use Rattle.suspects.proofs.Marking.{refusal_apart}
use Rattle.mapped.specs.Inner.{done_mark, judged_mark}

-- ---- a call that only writes

pub done_finished : (x : Mark) {d : Result (Unit {0}) Refusal} {u : Unit {0}} → d ≡ Ok u → x ≡ done_mark x (done_number d)
unfolding is_finished
done_finished x e = ap (λ (y : Result (Unit {0}) Refusal). done_mark x (done_number y)) (sym e)

pub done_refused : (x : Mark) {d : Result (Unit {0}) Refusal} {f : Refusal} → d ≡ Err f → Keeps ≡ done_mark x (done_number d)
done_refused x {d} {f} e = sym (ap (λ (y : Result (Unit {0}) Refusal). done_mark x (done_number y)) e ∙ ap (λ (b : Bool). cond b x Keeps) (refusal_apart f))

-- ---- a read or a mend

pub judged_whole : (x : Mark) {j : Result Found Refusal} → j ≡ Ok F.Whole → Clears ≡ judged_mark x (judged_number j)
unfolding is_finished
judged_whole x e = ap (λ (y : Result Found Refusal). judged_mark x (judged_number y)) (sym e)

at_place : (x : Mark) (p : Place) → x ≡ judged_mark x (doubt_number p)
unfolding is_finished
at_place x local = refl
at_place x tag = refl
at_place x remote = refl

pub judged_doubtful : (x : Mark) {j : Result Found Refusal} {p : E.Place} → j ≡ Ok (F.Doubtful p) → x ≡ judged_mark x (judged_number j)
judged_doubtful x {j} {p} e = at_place x (place_named p) ∙ ap (λ (y : Result Found Refusal). judged_mark x (judged_number y)) (sym e)

pub judged_refused : (x : Mark) {j : Result Found Refusal} {f : Refusal} {m : Mark} → j ≡ Err f → m ≡ lost_or_clashing (refusal_number f) → m ≡ judged_mark x (judged_number j)
judged_refused x {j} {f} e h =
    h
    ∙ sym
    (ap (λ (y : Result Found Refusal). judged_mark x (judged_number y)) e
    ∙ ap (λ (b : Bool). cond b (cond (eqb (refusal_number f) 0) Clears x) (lost_or_clashing (refusal_number f))) (refusal_apart f))

-- a mend that finishes clears, whatever it found
pub mended : (k : ℕ) {m : Mark} → m ≡ judged_mark Clears k → m ≡ marks mend k
mended k e = e ∙ ap (λ (x : Mark). cond (is_finished k) x (lost_or_clashing k)) (both (eqb k 0))
  where
    both : (b : Bool) → cond b Clears Clears ≡ Clears
    both true = refl
    both false = refl

-- ---- a read or a mend that is refused

same_refusal : {f g : Refusal} {x : Mark} → f ≡ g → x ≡ lost_or_clashing (refusal_number g) → x ≡ lost_or_clashing (refusal_number f)
same_refusal e h = h ∙ ap (λ (y : Refusal). lost_or_clashing (refusal_number y)) (sym e)

pub lost_sets : {f : Refusal} → f ≡ Lost → Sets ≡ lost_or_clashing (refusal_number f)
unfolding lost_or_clashing
lost_sets e = same_refusal e refl

pub clashing_sets : {f : Refusal} → f ≡ Clashing → Sets ≡ lost_or_clashing (refusal_number f)
unfolding lost_or_clashing
clashing_sets e = same_refusal e refl

pub others_keep : {f : Refusal} → (f ≡ Lost → ⊥) → (f ≡ Clashing → ⊥) → Keeps ≡ lost_or_clashing (refusal_number f)
unfolding lost_or_clashing
others_keep {f} p q =
    simp (ne_eqb (refusal_number f) 6 (λ (e : refusal_number f ≡ 6). p (refusal_one f Lost e)), ne_eqb (refusal_number f) 7 (λ (e : refusal_number f ≡ 7). q (refusal_one f Clashing e)))
