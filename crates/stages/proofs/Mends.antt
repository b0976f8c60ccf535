-- The outcome of a mend from the answer of judging. Assumes nothing.
use mathlib.Core.Path.{◌≡◌, sym, ap, ap₂, ◌∙◌}
use mathlib.Core.List.{List}
use mathlib.Core.Option.{Option}
use Prim.Native.Nat.{ℕ}
use lib.ListN.{length}
use Rattle.std.specs.Prelude.{Result, Err}
use Rattle.mode.specs.Scheme.{Scheme}
use Rattle.mode.specs.Sealing.{Triple, triple}
use Rattle.answers.specs.declared.Found.{Found}
use Rattle.answers.specs.declared.Found.TheVariants as F
use Rattle.answers.specs.declared.Place as D
use Rattle.answers.specs.declared.Refusal.{Refusal}
use Rattle.answers.specs.Answers.{found_number, finding_number, refusal_number, place_named, judged_number}
use Rattle.answers.specs.Rules.{first_of, rules_of, settle}
use Rattle.verdict.specs.Judging.{verdict_refusal, verdict_doubt, verdict_outcome}
use Rattle.verdict.specs.Verdict.{Verdict, judge}
use Rattle.history.specs.Volume.{mend, sector_of, mends}
use Rattle.stages.specs.Inner.{one, seal_into, late_outcome}
use Rattle.stages.proofs.Verdicts.{found_whole, found_doubtful, found_refused}

-- a mend that finds the verdict w, with o for its refusal
abbrev mend_by : Scheme → ℕ → ℕ → ℕ → Triple → Option ℕ → Verdict → ℕ × Triple
mend_by S T s i v o w = settle (first_of (rules_of o)) (found_number (verdict_doubt w), seal_into S T s i (mends w).plain (mends w).places v) v

module _ (S : Scheme) (T s i : ℕ) (l g r out : List ℕ) where
  abbrev v : Triple
  v = triple l g r

  abbrev found : Verdict
  found = judge S T (sector_of s i v)

  module _ {o : List ℕ} {f : Found} (e : verdict_outcome found out ≡ (finding_number f, o)) where
    pub mend_whole : f ≡ F.Whole → late_outcome S T s i v mend ≡ (finding_number f, v)
    unfolding late_outcome
    mend_whole q =
        ap (λ (x : Verdict). mend_by S T s i v (verdict_refusal x) x) (found_whole found out e q)
        ∙ ap (λ (y : Found). (finding_number y, v)) (sym q)

    -- y are the images after the plaintext found, which has s bytes, is written to the place
    pub mend_doubtful : {d : D.Place} → f ≡ F.Doubtful d → length o ≡ length out → length out ≡ s → {y : Triple} → y ≡ seal_into S T (length o) i o (one (place_named d)) v
        → late_outcome S T s i v mend ≡ (finding_number f, y)
    unfolding late_outcome
    mend_doubtful {d} q kept size y =
        ap (λ (x : Verdict). mend_by S T s i v (verdict_refusal x) x) (found_doubtful found out e q)
        ∙ ap₂ (λ (g : Found) (u : Triple). (finding_number g, u)) (sym q) (sym (y ∙ ap (λ (n : ℕ). seal_into S T n i o (one (place_named d)) v) (kept ∙ size)))

  pub mend_refused : {o : List ℕ} (f : Refusal) {x : Result Found Refusal} → verdict_outcome found out ≡ (refusal_number f, o) → x ≡ Err f
      → late_outcome S T s i v mend ≡ (judged_number x, v)
  unfolding late_outcome
  mend_refused f e q =
      ap (λ (x : Option ℕ). mend_by S T s i v x found) (found_refused found out f e)
      ∙ ap (λ (y : Result Found Refusal). (judged_number y, v)) (sym q)
