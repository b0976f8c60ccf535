-- What follows a read, by its answer. Assumes nothing.
use mathlib.Core.Path.{◌≡◌, refl, sym, ap, ◌∙◌}
use mathlib.Core.Bool.{Bool, true, false, ◌||◌, cond}
use mathlib.Core.List.{List, [], ◌∷◌}
use Prim.Native.Nat.{ℕ}
use lib.Dec.{eqb}
use lib.ListN.{length}
use Rattle.block.proofs.Lists.{false-true}
use Rattle.mode.specs.Sealing.{Triple}
use Rattle.mode.specs.Scheme.{Place, local, tag, remote}
use Rattle.answers.specs.Answers.{doubt_number}
use Rattle.answers.specs.Rules.{Args}
use Rattle.history.specs.Volume.{Call, mend, read, mirror}
use Rattle.suspects.specs.Marks.{is_finished, map_outcome}
use Rattle.writes.specs.Write.{stages, following, calls_leave, write_outcome}

pub after_doubt : (P : List ℕ) (d : Place) → following P (doubt_number d) ≡ mend ∷ stages P
unfolding is_finished
after_doubt P local = refl
after_doubt P tag = refl
after_doubt P remote = refl

-- nothing, where the number is none of a read that finished
pub after-refusal : (P : List ℕ) (k : ℕ) → is_finished k ≡ false → following P k ≡ []
unfolding is_finished
after-refusal P k e = go (eqb k 0) _ e
  where
    go : (b c : Bool) → (b || c) ≡ false → cond b (stages P) (cond (b || c) (mend ∷ stages P) []) ≡ []
    go true c e = false-true (sym e)
    go false c e = ap (λ (x : Bool). cond x (mend ∷ stages P) []) e

-- the write, by what its read answers
pub wrote : (v : Triple) (a : Args) (P m : List ℕ) {k : ℕ} {d e : Triple × List ℕ} {cs : List Call} → map_outcome mirror v a (read (length P)) m ≡ (k, d) → following P k ≡ cs
    → calls_leave mirror a cs d ≡ e → write_outcome mirror v a P m ≡ (k, e)
unfolding write_outcome
wrote v a P m {k} {d} h f g =
    ap (λ (r : ℕ × (Triple × List ℕ)). (r.0, calls_leave mirror a (following P r.0) r.1)) h
    ∙ ap (λ (cs : List Call). (k, calls_leave mirror a cs d)) f
    ∙ ap (λ (x : Triple × List ℕ). (k, x)) g
