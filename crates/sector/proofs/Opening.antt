-- The answer of opening a side, from what the code has worked out, for open and rebuild alike. Assumes nothing.
use mathlib.Core.Path.{◌≡◌, sym, ap, ap₂, ◌∙◌}
use mathlib.Core.Bool.{Bool, true, false}
use mathlib.Core.List.{List}
use mathlib.Core.Option.{Option, none, some}
use Prim.Native.Nat.{ℕ, ◌%◌}
use lib.ListN.{length, take, drop}
use Rattle.block.specs.Bytes.{Bytes, from_bytes, same}
use Rattle.mode.specs.declared.Direction.{Direction}
use Rattle.mode.specs.Prepared.{scheme_of}
use Rattle.mode.specs.Scheme.{Scheme, scheme}
use Rattle.mode.specs.Sealing.{Key, tweak}
use Rattle.mode.specs.Transforms.{transformed_by}
use Rattle.verdict.specs.Judging.{sealing_of}
use Rattle.verdict.specs.Verdict.{Side, other_side, open_side}
use Rattle.verdict.proofs.Opened.{SideKnown, found, missing, rebuilt}
use Rattle.sector.specs.declared.Wanted.{Wanted}
use Rattle.sector.specs.declared.Wanted.TheVariants.{Plaintext, Opposite}
use Rattle.sector.specs.Calls.{open_outcome}
use Rattle.sector.specs.Opening.{wanted_of, opened_as}

-- ---- the outcome, from what is found

pub outcome_some : (f : List ℕ → List ℕ) (out : List ℕ) {r : Option (List ℕ)} {P o : List ℕ} → r ≡ some P → o ≡ f P → open_outcome f r out ≡ (0, o)
outcome_some f out e eo = ap (λ r. open_outcome f r out) e ∙ ap (λ (Q : List ℕ). (0, Q)) (sym eo)

pub outcome_none : (f : List ℕ → List ℕ) (out : List ℕ) {r : Option (List ℕ)} → r ≡ none → open_outcome f r out ≡ (5, out)
outcome_none f out e = ap (λ r. open_outcome f r out) e

-- ---- the sector x of the side d, opened with the tag g to o, and b says whether o has the tag

module _ (w p : List ℕ) (T : ℕ) (d : Side) (x g out o : List ℕ) (b : Bool) (blocks : length x % 16 ≡ 0) (tag_size : length g ≡ 16) (bytes_x : Bytes x) (bytes_g : Bytes g)
    (gave : o ≡ open_side (scheme_of w p) d g x) (test : b ≡ same g ((scheme_of w p).sealed T o).tag) where
  known : SideKnown x g
  known = record { bytes_x = bytes_x; bytes_g = bytes_g; blocks = blocks; tag_size = tag_size }

  pub none_fits : (h : Wanted) → b ≡ false → opened_as h (scheme_of w p) T d x g out ≡ (5, out)
  none_fits h n = outcome_none (wanted_of h (scheme_of w p) T d) out (missing w p T d x g known o b (gave, test) n)

  pub gives_plaintext : {h : Wanted} → h ≡ Plaintext → b ≡ true → {a : List ℕ} → a ≡ o → opened_as h (scheme_of w p) T d x g out ≡ (0, a)
  gives_plaintext eh y ea =
      ap (λ (h : Wanted). opened_as h (scheme_of w p) T d x g out) eh ∙ outcome_some (λ P. P) out (found w p T d x g known o b (gave, test) y) ea

  pub gives_opposite : {h : Wanted} → h ≡ Opposite → b ≡ true → {k : ℕ} {how : Direction} {a : List ℕ} → k ≡ from_bytes (take 16 (drop 0 g)) → how ≡ sealing_of (other_side d)
      → a ≡ transformed_by how w k o → opened_as h (scheme_of w p) T d x g out ≡ (0, a)
  gives_opposite eh y {k} ek ehow ea =
      ap (λ (h : Wanted). opened_as h (scheme_of w p) T d x g out) eh
      ∙ outcome_some (wanted_of Opposite (scheme_of w p) T d) out (found w p T d x g known o b (gave, test) y) (rebuilt w p T d x g known o b (gave, test) y k ek ehow ea)

-- ---- with a prepared key: the mode that is lent is the one prepared, and that is the key's

pub opened_is : (k : Key) {lent prepared : Scheme} {T : ℕ} (volume address : ℕ) (h : Wanted) (d : Side) (x g out : List ℕ) {a : ℕ × List ℕ}
    → lent ≡ prepared → prepared ≡ scheme k → T ≡ tweak volume address
    → opened_as h lent T d x g out ≡ a → opened_as h (scheme k) (tweak volume address) d x g out ≡ a
opened_is k volume address h d x g out el ek et ea = sym (ap₂ (λ (S : Scheme) (T : ℕ). opened_as h S T d x g out) (el ∙ ek) et) ∙ ea
