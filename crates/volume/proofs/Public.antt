-- The calls' outcomes by what the early checks decide, and what passing them shows. Assumes nothing.
use mathlib.Core.Path.{◌≡◌, refl, sym, ap, ◌∙◌, subst}
use mathlib.Core.Bool.{Bool, true}
use mathlib.Core.List.{List, ◌++◌}
use mathlib.Core.Option.{Option, none, some}
use Prim.Native.Nat.{ℕ}
use lib.ListN.{length}
use Rattle.mode.specs.Scheme.{is_key}
use Rattle.mode.specs.Sealing.{Key, Triple, triple}
use Rattle.answers.specs.Rules.{Rule, first_of, settle, Args, args, shape, is_shape, sector_rules, length_rules}
use Rattle.answers.proofs.Passing.{length_due}
use Rattle.verdict.specs.Judging.{verdict_outcome}
use Rattle.verdict.specs.Verdict.{judge}
use Rattle.history.specs.Volume.{Call, first, second, third, mend, read, lengths, early, sector, sealing, mirror, outcome, read_outcome}
use Rattle.history.proofs.Outcomes.{outcome_early, outcome_late, read_early, read_late}
use Rattle.history.proofs.Refusals.{Passed, passed}
use Rattle.images.specs.Lent.{Within}
use Rattle.images.proofs.Rooms.{has_room, within_room, within_same}
use Rattle.stages.specs.Inner.{seal_into, late_outcome}

-- what the code's checks decide of a call
abbrev checked : Triple → Args → Call → Option ℕ
checked v a c =
    let right : Bool = shape a.volume.size a.volume.count (length v.local) (length v.tag) (length v.remote) in
    first_of (sector_rules a.volume.key a.volume.size a.volume.count right a.number ++ lengths a c)

early_checked : (v : Triple) (a : Args) (c : Call) {o : Option ℕ} → checked v a c ≡ o → first_of (early v a c) ≡ o
unfolding early is_shape
early_checked v a c e = e

module _ (v : Triple) (a : Args) (c : Call) where
  module _ (passes : checked v a c ≡ none) where
    facts : Passed v a c
    facts = passed v a c (early_checked v a c passes)

    call_within : (is_key a.volume.key ≡ true) × Within a.volume.size a.number (length v.local) (length v.tag) (length v.remote)
    call_within =
        let room = has_room v a.volume facts.common in
        (facts.common.key, within_room a.volume.size a.volume.count a.number (length v.local) (length v.tag) (length v.remote) room facts.number)

    -- with a plaintext or an output of p bytes
    length_is : (p : ℕ) → lengths a c ≡ length_rules p a.volume.size → p ≡ a.volume.size
    length_is p e = length_due p a.volume.size (subst (λ (m : List Rule). first_of m ≡ none) e facts.lengths)

  -- a refusal, or what comes after the checks
  pub outcome_is : outcome mirror v a c ≡ settle (checked v a c) (late_outcome (sealing mirror a) a.number a.volume.size a.number v c) v
  unfolding seal_into late_outcome
  outcome_is = go (checked v a c) refl
    where
      by_checks : Option ℕ → ℕ × Triple
      by_checks o = settle o (late_outcome (sealing mirror a) a.number a.volume.size a.number v c) v

      go : (o : Option ℕ) → checked v a c ≡ o → outcome mirror v a c ≡ by_checks (checked v a c)
      go none e = outcome_late mirror v a c (early_checked v a c e) ∙ ap by_checks (sym e)
      go (some n) e = outcome_early mirror v a c (early_checked v a c e) ∙ ap by_checks (sym e)

-- ---- a stage: the length of its plaintext is the size of a sector

module _ (v : Triple) (a : Args) (P : List ℕ) where
  stage_is : (c : Call) → lengths a c ≡ length_rules (length P) a.volume.size → checked v a c ≡ none → {x : ℕ × Triple}
      → late_outcome (sealing mirror a) a.number (length P) a.number v c ≡ x → outcome mirror v a c ≡ x
  stage_is c e passes x =
      outcome_is v a c
      ∙ ap (λ (o : Option ℕ). settle o (late_outcome (sealing mirror a) a.number a.volume.size a.number v c) v) passes
      ∙ ap (λ (n : ℕ). late_outcome (sealing mirror a) a.number n a.number v c) (sym (length_is v a c passes (length P) e))
      ∙ x

  pub first_is : checked v a (first P) ≡ none → {x : ℕ × Triple} → late_outcome (sealing mirror a) a.number (length P) a.number v (first P) ≡ x → outcome mirror v a (first P) ≡ x
  first_is passes x = stage_is (first P) refl passes x

  pub second_is : checked v a (second P) ≡ none → {x : ℕ × Triple} → late_outcome (sealing mirror a) a.number (length P) a.number v (second P) ≡ x → outcome mirror v a (second P) ≡ x
  second_is passes x = stage_is (second P) refl passes x

  pub third_is : checked v a (third P) ≡ none → {x : ℕ × Triple} → late_outcome (sealing mirror a) a.number (length P) a.number v (third P) ≡ x → outcome mirror v a (third P) ≡ x
  third_is passes x = stage_is (third P) refl passes x

-- ---- a read

module _ (v : Triple) (a : Args) (out : List ℕ) where
  abbrev by_verdict : Option ℕ → ℕ × List ℕ
  by_verdict o = settle o (verdict_outcome (judge (sealing mirror a) a.number (sector v a)) out) out

  pub read_is : read_outcome mirror v a out ≡ settle (checked v a (read (length out))) (verdict_outcome (judge (sealing mirror a) a.number (sector v a)) out) out
  read_is = go (checked v a (read (length out))) refl
    where
      go : (o : Option ℕ) → checked v a (read (length out)) ≡ o → read_outcome mirror v a out ≡ by_verdict (checked v a (read (length out)))
      go none e = read_late mirror v a out (early_checked v a (read (length out)) e) ∙ ap by_verdict (sym e)
      go (some n) e = read_early mirror v a out (early_checked v a (read (length out)) e) ∙ ap by_verdict (sym e)

-- ---- what the functions behind the checks require

module _ (k : Key) (s n i : ℕ) (l g r : List ℕ) where
  abbrev v' : Triple
  v' = triple l g r

  pub sector_within : first_of (sector_rules k s n (shape s n (length l) (length g) (length r)) i) ≡ none → (is_key k ≡ true) × Within s i (length l) (length g) (length r)
  sector_within passes = call_within v' (args k 0 s n i) mend passes

  pub stage_within : (p : ℕ) → first_of (sector_rules k s n (shape s n (length l) (length g) (length r)) i ++ length_rules p s) ≡ none
      → (is_key k ≡ true) × Within p i (length l) (length g) (length r)
  stage_within p passes =
      let c : Call = read p in
      let w = call_within v' (args k 0 s n i) c passes in
      (w.0, within_same (length_is v' (args k 0 s n i) c passes p refl) w.1)

  -- x, y and z are the lengths of the images
  pub read_within : (out : List ℕ) (x y z : ℕ) → first_of (sector_rules k s n (shape s n x y z) i ++ length_rules (length out) s) ≡ none
      → x ≡ length l → y ≡ length g → z ≡ length r → (is_key k ≡ true) × Within s i (length l) (length g) (length r) × (length out ≡ s)
  read_within out x y z e ex ey ez =
      let c : Call = read (length out) in
      let passes = subst (λ (b : Bool). first_of (sector_rules k s n b i ++ length_rules (length out) s) ≡ none) (λ j. shape s n (ex j) (ey j) (ez j)) e in
      let w = call_within v' (args k 0 s n i) c passes in
      (w.0, w.1, length_is v' (args k 0 s n i) c passes (length out) refl)
