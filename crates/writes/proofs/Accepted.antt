-- A call that answers as one that finished was not refused. Assumes nothing.
use mathlib.Core.Path.{◌≡◌, refl, sym, ap, subst, ◌∙◌}
use mathlib.Core.Logic.{inl, inr}
use mathlib.Core.Bool.{Bool, true, false, cond}
use mathlib.Core.List.{List, []}
use mathlib.Core.Option.{Option, none, some}
use Prim.Native.Nat.{ℕ}
use lib.Dec.{eqb}
use lib.ListN.{length}
use Rattle.block.proofs.Lists.{clash}
use Rattle.mode.specs.Sealing.{Triple}
use Rattle.answers.specs.Rules.{first_of, Args}
use Rattle.history.specs.Volume.{Call, blank, first, second, third, mend, read, mirror}
use Rattle.suspects.specs.declared.Mark.{Mark}
use Rattle.suspects.specs.declared.Mark.TheVariants.{Clears, Sets, Keeps}
use Rattle.suspects.specs.Marks.{is_finished, finishing, refusing, marks, map_outcome}
use Rattle.suspects.specs.Calls.{call_order}
use Rattle.suspects.proofs.Marking.{Ends, refused_ends}
use Rattle.suspects.proofs.Calls.{map_calls}
use Rattle.writes.specs.Write.{following}
use Rattle.writes.proofs.Following.{after-refusal}

abbrev pub IsKeeps : Mark → Type 0
IsKeeps Clears = ⊥
IsKeeps Sets = ⊥
IsKeeps Keeps = Unit {0}

-- no call that finishes keeps the map
marks_it : (c : Call) (k : ℕ) → IsKeeps (finishing c k) → ⊥
marks_it blank k z = z
marks_it (first P) k z = z
marks_it (second P) k z = z
marks_it (third P) k z = z
marks_it mend k z = z
marks_it (read o) k z = go (eqb k 0) z
  where
    go : (b : Bool) → IsKeeps (cond b Clears Sets) → ⊥
    go true z = z
    go false z = z

pub keeps_unfinished : (c : Call) (k : ℕ) → marks c k ≡ Keeps → is_finished k ≡ false
keeps_unfinished c k e = go (is_finished k) e
  where
    go : (b : Bool) → cond b (finishing c k) (refusing c k) ≡ Keeps → b ≡ false
    go true z = absurd (marks_it c k (subst IsKeeps (sym z) tt))
    go false z = refl

-- no refusal is the number of a call that finished
refusal_unfinished : (v : Triple) (a : Args) (c : Call) (m : List ℕ) (k : ℕ) → first_of (call_order v a c m) ≡ some k → is_finished k ≡ false
unfolding is_finished
refusal_unfinished v a c m k e = go (refused_ends v a c m k e)
  where
    go : Ends c k → is_finished k ≡ false
    go (inl h) = keeps_unfinished c k h
    go (inr (j, inl x)) = ap is_finished x
    go (inr (j, inr x)) = ap is_finished x

pub finished_accepted : (v : Triple) (a : Args) (c : Call) (m : List ℕ) → is_finished (map_outcome mirror v a c m).0 ≡ true → first_of (call_order v a c m) ≡ none
finished_accepted v a c m f = go (first_of (call_order v a c m)) refl
  where
    go : (o : Option ℕ) → first_of (call_order v a c m) ≡ o → first_of (call_order v a c m) ≡ none
    go none e = e
    go (some k) e = clash (sym (ap (λ (r : ℕ × (Triple × List ℕ)). is_finished r.0) (map_calls.refuses v a c m k e)) ∙ f) (refusal_unfinished v a c m k e)

-- a write whose read is refused makes no other call
module _ (v : Triple) (a : Args) (P m : List ℕ) (k : ℕ) (e : first_of (call_order v a (read (length P)) m) ≡ some k) where
  pub read_only : following P (map_outcome mirror v a (read (length P)) m).0 ≡ []
  read_only =
      ap (λ (r : ℕ × (Triple × List ℕ)). following P r.0) (map_calls.refuses v a (read (length P)) m k e)
      ∙ after-refusal P k (refusal_unfinished v a (read (length P)) m k e)
