-- What is printed of a frame's answer. Assumes nothing.
use mathlib.Core.Path.{◌≡◌, refl, sym, ap, ap₂, ◌∙◌}
use mathlib.Core.Bool.{Bool, true, false, cond}
use mathlib.Core.List.{List, [], ◌++◌}
use Prim.Native.Nat.{ℕ, ◌+◌, ◌*◌, ◌≤◌}
use native.Mathlib.Nat.{le_trans, le_of_eq}
use native.Mathlib.Omega.{arith}
use lib.ListN.{length, take, drop, replicate, length-replicate}
use lib.Seq.{take_all}
use Rattle.block.proofs.Lists.{take_zeros}
use Rattle.answers.specs.Answers.{doubt_number, place_named, judged_number}
use Rattle.std.specs.Prelude.{Result, Ok, Err}
use Rattle.answers.specs.declared.Refusal.{Refusal}
use Rattle.answers.specs.declared.Found.{Found}
use Rattle.answers.specs.declared.Found.TheVariants.{Whole, Doubtful}
use Rattle.frame.specs.Frame.{called, given, refused, with_plaintext, answered}
use Rattle.frame.specs.Inner.{plaintext_length}
use Rattle.frame.proofs.Frames.{doubt_plain, refusal_bare}
use Rattle.line.specs.Line.{printed, shown}
use Rattle.line.specs.Inner.{Prints}

-- ---- what is printed

pub reprint : {text same : List ℕ} (before after : List ℕ) (r m : ℕ) {k : ℕ} → text ≡ same → k ≤ m → Prints same before after r k → Prints text before after r m
reprint before after r m e h p = (p.0 ∙ ap (λ (t : List ℕ). t ++ drop r before) (sym e), p.1 ∙ ap length (sym e), le_trans p.2 h)

shown_by : {x : ℕ × List ℕ} {n : ℕ} {o : List ℕ} {b : Bool} → x ≡ (n, o) → with_plaintext n ≡ b → shown (answered x) ≡ cond b (printed n o) (printed n [])
unfolding shown answered
shown_by {x} {n} {o} {b} e h = ap (λ z. shown (answered z)) e ∙ ap (λ d. shown (cond d (given n o) (refused n))) h ∙ go b
  where
    go : (d : Bool) → shown (cond d (given n o) (refused n)) ≡ cond d (printed n o) (printed n [])
    go true = refl
    go false = refl

-- what is shown for the code's answer to a call: its number, and as much of the output as comes with it
module _ {x : ℕ × List ℕ} {o : List ℕ} where
  shown-judged : (j : Result Found Refusal) → x ≡ (judged_number j, o) → shown (answered x) ≡ printed (judged_number j) (take (plaintext_length j (length o)) o)
  unfolding with_plaintext
  shown-judged (Ok Whole) e = shown_by e refl ∙ ap (printed 0) (sym (take_all (length o) o (omega arith)))
  shown-judged (Ok (Doubtful p)) e =
      shown_by e (doubt_plain (place_named p)) ∙ ap (printed (doubt_number (place_named p))) (sym (take_all (length o) o (omega arith)))
  shown-judged (Err f) e = shown_by e (refusal_bare f)

  pub shown-answer : (j : Result Found Refusal) {n k : ℕ} → x ≡ (judged_number j, o) → n ≡ judged_number j → k ≡ plaintext_length j (length o)
      → shown (answered x) ≡ printed n (take k o)
  shown-answer j e en ek = shown-judged j e ∙ ap₂ (λ (a b : ℕ). printed a (take b o)) (sym en) (sym ek)

-- ---- the room for a plaintext

module _ (f : List ℕ) (s : ℕ) (h : s ≤ 4096) where
  abbrev room : List ℕ
  room = take {A = ℕ} s (replicate 4096 0)

  room_long : length room ≡ s
  room_long = ap length (take_zeros s 4096 h) ∙ length-replicate s 0

  pub room_printed : (before after : List ℕ) (r : ℕ) → Prints (shown (answered (called f room))) before after r (2 * length room + 3)
      → Prints (shown (answered (called f (replicate s 0)))) before after r (2 * s + 3)
  room_printed before after r p =
      reprint before after r (2 * s + 3) (ap (λ (l : List ℕ). shown (answered (called f l))) (sym (take_zeros s 4096 h)))
      (le_of_eq (ap (λ (k : ℕ). 2 * k + 3) room_long)) p
