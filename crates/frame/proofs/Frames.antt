-- The parts of a frame that are lent to Judge and Combine, and which answers come with a plaintext. Assumes nothing.
use mathlib.Core.Path.{◌≡◌, refl, sym, ap, ◌∙◌}
use mathlib.Core.Bool.{Bool, true, false, cond}
use mathlib.Core.List.{List}
use Prim.Native.Nat.{ℕ, zero, suc, ◌+◌, ◌*◌, ◌-◌}
use native.Mathlib.Omega.{arith}
use Rattle.std.specs.Prelude.{Result, Ok}
use Rattle.std.specs.Result.{result_eq}
use lib.Dec.{eqb}
use lib.ListN.{length}
use borrow.Author.Tests.{eq-eqb, ne_eqb}
use borrow.Rule.Slice.PartMut.{mid_of}
use Rattle.block.specs.Bytes.{from_bytes}
use Rattle.mode.specs.Scheme.{Place, local, tag, remote}
use Rattle.mode.specs.Sealing.{key_from, triple}
use Rattle.answers.specs.Answers.{doubt_number, refusal_number}
use Rattle.answers.specs.declared.Refusal.{Refusal}
use Rattle.answers.proofs.Numbers.{refusal_range}
use Rattle.sector.specs.Calls.{judge_call, combine_call}
use Rattle.frame.specs.declared.Kind.{Kind}
use Rattle.frame.specs.declared.Kind.TheVariants.{Judge, Combine}
use Rattle.frame.specs.Inner.{kind_numbered}
use Rattle.frame.specs.Frame.{kind, beside, field, judged, combined, called, with_plaintext}

-- ---- the kind

-- whether a byte is the number of Judge, by the kind that it names
pub judge_numbered : (n : ℕ) (same : Kind → Kind → Bool) (other : Refusal → Refusal → Bool) (r : Result Kind Refusal) → r ≡ kind_numbered n
    → same Judge Judge ≡ true → same Combine Judge ≡ false → result_eq same other r (Ok Judge) ≡ eqb n 1
judge_numbered n same other r e is_same is_other = ap (λ s. result_eq same other s (Ok Judge)) e ∙ go n
  where
    go : (k : ℕ) → result_eq same other (kind_numbered k) (Ok Judge) ≡ eqb k 1
    go zero = refl
    go (suc zero) = is_same
    go (suc (suc zero)) = is_other
    go (suc (suc (suc k))) = sym (ne_eqb (suc (suc (suc k))) 1 (λ e. omega arith))

-- ---- the calls

module _ (f out : List ℕ) where
  abbrev s : ℕ
  s = length out

  pub judged_is : (address : ℕ) {m : ℕ} {o : List ℕ} → length f ≡ 57 + 2 * s → address ≡ from_bytes (field 33 8 f)
      → judge_call (key_from (mid_of 1 (33 - 1) f)) 0 address (triple (mid_of 41 (41 + s - 41) f) (mid_of (41 + s) (57 + s - (41 + s)) f) (mid_of (57 + s) (length f - (57 + s)) f)) out ≡ (m, o)
      → judged f out ≡ (m, o)
  unfolding judged
  judged_is address h ea e =
      let p : s ≡ 41 + s - 41 = omega arith in
      let q : 16 ≡ 57 + s - (41 + s) = omega arith in
      let r : s ≡ length f - (57 + s) = omega arith in
      (λ i. judge_call (key_from (field 1 32 f)) 0 (sym ea i) (triple (field 41 (p i) f) (field (41 + s) (q i) f) (field (57 + s) (r i) f)) out)
      ∙ e

  pub combined_is : {m : ℕ} {o : List ℕ} → length f ≡ 1 + 2 * s
      → combine_call (mid_of 1 (1 + s - 1) f) (mid_of (1 + s) (length f - (1 + s)) f) out ≡ (m, o) → combined f out ≡ (m, o)
  unfolding combined
  combined_is {m} {o} h e =
      let p : s ≡ 1 + s - 1 = omega arith in
      let q : s ≡ length f - (1 + s) = omega arith in
      (λ i. combine_call (field 1 (p i) f) (field (1 + s) (q i) f) out) ∙ e

  pub called-judged : kind f ≡ 1 → called f out ≡ judged f out
  unfolding called
  called-judged h = ap (λ b. cond b (judged f out) (combined f out)) (eq-eqb (kind f) 1 h)

pub beside_one : (f : List ℕ) → kind f ≡ 1 → beside f ≡ 57
unfolding beside
beside_one f h = ap (λ b. cond b 57 1) (eq-eqb (kind f) 1 h)

-- ---- the answers that come with a plaintext

pub doubt_plain : (p : Place) → with_plaintext (doubt_number p) ≡ true
unfolding with_plaintext
doubt_plain local = refl
doubt_plain tag = refl
doubt_plain remote = refl

pub refusal_bare : (f : Refusal) → with_plaintext (refusal_number f) ≡ false
unfolding with_plaintext
refusal_bare f =
    let n : ℕ = refusal_number f in
    let h = refusal_range f in
    simp (ne_eqb n 0 (λ e. omega arith), ne_eqb n 0x81 (λ e. omega arith), ne_eqb n 0x82 (λ e. omega arith), ne_eqb n 0x83 (λ e. omega arith))
