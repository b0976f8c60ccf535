-- What is worked out with a prepared key is what the mirror has under that key and these numbers. Assumes nothing.
use mathlib.Core.Path.{◌≡◌, refl, sym, ap₂, ◌∙◌}
use mathlib.Core.List.{List}
use Prim.Native.Nat.{ℕ, ◌≤◌}
use lib.ListN.{length, take, replicate}
use Rattle.block.proofs.Lists.{take_zeros}
use Rattle.mode.specs.Scheme.{dcm, scheme, Scheme, Place}
use Rattle.mode.specs.Sealing.{Key, Triple, tweak, sealed}
use Rattle.verdict.specs.Judging.{verdict_outcome}
use Rattle.verdict.specs.Verdict.{fits, fits_two, candidate, grade, judge}
use Rattle.history.specs.Volume.{Call, blank, first, second, third, mend, read, mirror}
use Rattle.images.proofs.Rooms.{prefix_size}
use Rattle.stages.specs.Inner.{all_places, seal_into, late_outcome}

-- the mirror under a volume's number, at a sector's number, is the mode at their tweak
late_mirror : (K : Key) (volume s i : ℕ) (v : Triple) (c : Call) → late_outcome (scheme K) (tweak volume i) s i v c ≡ late_outcome (mirror K volume) i s i v c
unfolding late_outcome seal_into judge grade fits_two fits candidate mirror sealed scheme dcm
late_mirror K volume s i v blank = refl
late_mirror K volume s i v (first P) = refl
late_mirror K volume s i v (second P) = refl
late_mirror K volume s i v (third P) = refl
late_mirror K volume s i v mend = refl
late_mirror K volume s i v (read o) = refl

-- what is lent (S) is prepared (R) of the key K, and the tweak T is that of the volume's number and the sector's i
module _ (K : Key) {S R : Scheme} (lent : S ≡ R) (prepared : R ≡ scheme K) {T : ℕ} (volume i : ℕ) (eT : T ≡ tweak volume i) where
  pub late_keyed : (s : ℕ) (v : Triple) (c : Call) {x : ℕ × Triple} → late_outcome S T s i v c ≡ x → late_outcome (mirror K volume) i s i v c ≡ x
  late_keyed s v c x = sym (ap₂ (λ (U : Scheme) (n : ℕ). late_outcome U n s i v c) (lent ∙ prepared) eT ∙ late_mirror K volume s i v c) ∙ x

  pub verdict_keyed : (t : Triple) (out : List ℕ) {o : ℕ × List ℕ} → verdict_outcome (judge S T t) out ≡ o → verdict_outcome (judge (mirror K volume) i t) out ≡ o
  unfolding judge grade fits_two fits candidate mirror sealed scheme dcm
  verdict_keyed t out y = sym (ap₂ (λ (U : Scheme) (n : ℕ). verdict_outcome (judge U n t) out) (lent ∙ prepared) eT) ∙ y

  pub seals_keyed : (s : ℕ) (P : List ℕ) (places : List Place) (v : Triple) {x : Triple} → x ≡ seal_into S T s i P places v → x ≡ seal_into (mirror K volume) i s i P places v
  unfolding seal_into mirror sealed scheme dcm
  seals_keyed s P places v x = x ∙ ap₂ (λ (U : Scheme) (n : ℕ). seal_into U n s i P places v) (lent ∙ prepared) eT

  -- zeros are sealed from the front of an array of 4,096
  pub blank_keyed : (s : ℕ) (v : Triple) → s ≤ 4096 → {x : Triple} → let zeros : List ℕ = take s (replicate 4096 0) in x ≡ seal_into S T (length zeros) i zeros all_places v
      → late_outcome (mirror K volume) i s i v blank ≡ (0, x)
  unfolding late_outcome
  blank_keyed s v h {x} e =
      let z : take {A = ℕ} s (replicate 4096 0) ≡ replicate s 0 = take_zeros s 4096 h in
      let sealed_zeros : x ≡ seal_into (mirror K volume) i s i (replicate s 0) all_places v = seals_keyed s (replicate s 0) all_places v (e ∙ (λ k. seal_into S T (prefix_size s 0 h k) i (z k) all_places v)) in
      λ j. (0, sym sealed_zeros j)
