-- A read whose output is longer than every sector is refused as one with 4,097 bytes is. Assumes nothing.
use mathlib.Core.Path.{◌≡◌, refl, sym, ap, ◌∙◌}
use mathlib.Core.Bool.{Bool, not}
use mathlib.Core.List.{List, [], ◌∷◌, ◌++◌}
use mathlib.Core.Option.{Option, none, some}
use Prim.Native.Nat.{ℕ, ◌≤◌, min}
use native.Mathlib.Decide.{ℕ_discrete}
use native.Mathlib.Omega.{arith}
use lib.Dec.{eqb}
use borrow.Author.Tests.{eq-eqb, ne_eqb}
use Rattle.mode.specs.Sealing.{Triple}
use Rattle.mode.proofs.Sizes.{size_le}
use Rattle.answers.specs.Rules.{rule, first_of, settle, Args, is_shape, sector_rules, map_rules}
use Rattle.answers.proofs.Rules.{none_left}
use Rattle.answers.proofs.Passing.{common}
use Rattle.verdict.specs.Judging.{verdict_doubt, verdict_plain}
use Rattle.verdict.specs.Verdict.{Verdict, judge}
use Rattle.history.specs.Answers.{gives, reply, answer_number}
use Rattle.history.specs.Volume.{read, judge_rules, early, sector, sealing, unless, refusal, answer, after, outcome, mirror}
use Rattle.suspects.specs.Marks.{marks, marked, map_refusal, map_outcome}
use Rattle.suspects.proofs.Marking.{volume_only, nine}
use Rattle.suspects.proofs.Calls.{marked_refused}

-- no length above 4,096 is that of a sector
least_length : (o s : ℕ) → s ≤ 4096 → eqb (min o 4097) s ≡ eqb o s
least_length o s h = go (ℕ_discrete o s)
  where
    go : Dec (o ≡ s) → eqb (min o 4097) s ≡ eqb o s
    go (yes e) = eq-eqb (min o 4097) s (omega arith) ∙ sym (eq-eqb o s e)
    go (no n) = ne_eqb (min o 4097) s (λ (e : min o 4097 ≡ s). n (omega arith)) ∙ sym (ne_eqb o s n)

module _ (v : Triple) (a : Args) where
  abbrev verdict : Verdict
  verdict = judge (sealing mirror a) a.number (sector v a)

  least_refusal : (o : ℕ) → a.volume.size ≤ 4096 → refusal mirror v a (read (min o 4097)) ≡ refusal mirror v a (read o)
  unfolding refusal early
  least_refusal o h =
      ap (λ (b : Bool). first_of ((sector_rules a.volume.key a.volume.size a.volume.count (is_shape a.volume.size a.volume.count v) a.number ++ (rule 3 (not b) ∷ [])) ++ judge_rules verdict))
      (least_length o a.volume.size h)

  -- what a read answers and leaves, by its refusal
  by_refusal : Option ℕ → ℕ × Triple
  by_refusal x = (answer_number (reply x (gives (verdict_doubt verdict) (verdict_plain verdict))), unless x v v)

  outcome_by : (o : ℕ) → outcome mirror v a (read o) ≡ by_refusal (refusal mirror v a (read o))
  unfolding outcome answer after by_refusal
  outcome_by o = refl

  module _ (m : List ℕ) where
    read_with_lem : (o : ℕ) → map_outcome mirror v a (read o) m ≡
        (let r = by_refusal (refusal mirror v a (read o)) in settle (map_refusal v a m) (r.0, (r.1, marked (marks (read o) r.0) a.number m)) (v, m))
    unfolding map_outcome
    read_with_lem o = ap (λ (r : ℕ × Triple). settle (map_refusal v a m) (r.0, (r.1, marked (marks (read o) r.0) a.number m)) (v, m)) (outcome_by o)

    pub least_read : (o : ℕ) → map_outcome mirror v a (read (min o 4097)) m ≡ map_outcome mirror v a (read o) m
    least_read o = go (map_refusal v a m) refl
      where
        go : (x : Option ℕ) → map_refusal v a m ≡ x → map_outcome mirror v a (read (min o 4097)) m ≡ map_outcome mirror v a (read o) m
        go (some k) e = marked_refused mirror v a (read (min o 4097)) m e ∙ sym (marked_refused mirror v a (read o) m e)
        go none e =
            let small = size_le a.volume.size (common v a.volume (none_left (map_rules a.volume.count _ ++ nine a) (volume_only v a.volume) e)).size in
            read_with_lem (min o 4097)
            ∙ ap (λ (x : Option ℕ). let r = by_refusal x in settle (map_refusal v a m) (r.0, (r.1, marked (marks (read o) r.0) a.number m)) (v, m)) (least_refusal o small)
            ∙ sym (read_with_lem o)
