-- A write's calls on the plain machine alone, whatever the images. Assumes nothing.
use mathlib.Core.Path.{◌≡◌, refl, sym, ap, subst}
use mathlib.Core.Logic.{inl, inr}
use mathlib.Core.Bool.{Bool, true, false, cond}
use mathlib.Core.List.{List, [], ◌∷◌}
use mathlib.Core.Option.{Option, none, some}
use Prim.Native.Nat.{ℕ}
use lib.Dec.{eqb}
use lib.ListN.{length}
use Rattle.block.specs.Bytes.{Bytes}
use Rattle.mode.specs.Sealing.{Triple}
use Rattle.mode.specs.Scheme.{Place, local, remote}
use Rattle.answers.specs.Rules.{Args}
use Rattle.history.specs.Volume.{Call, blank, first, second, third, mend, read, mirror}
use Rattle.history.specs.Machine.{Told, told_finished, told_cut, called, Held, kept, step, State, machine}
use Rattle.history.specs.Power.{LentBytes}
use Rattle.history.proofs.Events.{put_same, put_other}
use Rattle.suspects.specs.Marks.{is_finished, map_outcome}
use Rattle.writes.specs.Write.{stages, following}
use Rattle.writes.specs.History.{write_calls, OldOrNew}

-- the calls of a write of P
abbrev pub Writing : List ℕ → Call → Type 0
Writing P blank = ⊥
Writing P (first Q) = Q ≡ P
Writing P (second Q) = Q ≡ P
Writing P (third Q) = Q ≡ P
Writing P mend = Unit {0}
Writing P (read o) = Unit {0}

abbrev pub AllWriting : List ℕ → List Call → Type 0
AllWriting P [] = Unit {0}
AllWriting P (c ∷ cs) = Writing P c × AllWriting P cs

following_writing : (P : List ℕ) (k : ℕ) → AllWriting P (following P k)
following_writing P k = go (eqb k 0) (is_finished k)
  where
    go : (x y : Bool) → AllWriting P (cond x (stages P) (cond y (mend ∷ stages P) []))
    go true y = (refl, (refl, (refl, tt)))
    go false true = (tt, (refl, (refl, (refl, tt))))
    go false false = tt

pub calls_writing : (v : Triple) (a : Args) (P m : List ℕ) → AllWriting P (write_calls v a P m)
calls_writing v a P m = (tt, following_writing P (map_outcome mirror v a (read (length P)) m).0)

pub writing_lent : (P : List ℕ) → Bytes P → (c : Call) → Writing P c → LentBytes c
writing_lent P b blank w = tt
writing_lent P b (first X) w = subst Bytes (sym w) b
writing_lent P b (second X) w = subst Bytes (sym w) b
writing_lent P b (third X) w = subst Bytes (sym w) b
writing_lent P b mend w = tt
writing_lent P b (read o) w = tt

-- ---- a sector that is kept

module _ (s : ℕ) (Q P : List ℕ) where
  old_still : (d : Option Place) → OldOrNew Q P (kept Q d)
  old_still d = (d, inl refl)

  new_now : (X : List ℕ) → X ≡ P → (d : Option Place) → OldOrNew Q P (kept X d)
  new_now X e d = (d, inr (ap (λ (z : List ℕ). kept z d) e))

  -- a call of the write, finished or cut, on what is kept: its own plaintext, or the one kept before
  on_kept : (c : Call) → Writing P c → (t : Told) (R : List ℕ) (d : Option Place) → ((e : Option Place) → OldOrNew Q P (kept R e)) → OldOrNew Q P (step s c t (kept R d))
  on_kept blank w t R d g = absurd w
  on_kept (first X) w told_finished R d g = g (some local)
  on_kept (first X) w (told_cut b) R d g = g (some local)
  on_kept (second X) w told_finished R d g = new_now X w (some remote)
  on_kept (second X) w (told_cut true) R d g = new_now X w (some remote)
  on_kept (second X) w (told_cut false) R d g = g d
  on_kept (third X) w told_finished R d g = new_now X w none
  on_kept (third X) w (told_cut b) R d g = new_now X w (some remote)
  on_kept mend w told_finished R d g = g none
  on_kept mend w (told_cut b) R d g = g d
  on_kept (read o) w told_finished R d g = g d
  on_kept (read o) w (told_cut b) R d g = g d

  step_keeps : (c : Call) → Writing P c → (t : Told) (x : Held) → OldOrNew Q P x → OldOrNew Q P (step s c t x)
  step_keeps c w t x (d, inl e) = subst (λ (y : Held). OldOrNew Q P (step s c t y)) (sym e) (on_kept c w t Q d old_still)
  step_keeps c w t x (d, inr e) = subst (λ (y : Held). OldOrNew Q P (step s c t y)) (sym e) (on_kept c w t P d (new_now P refl))

-- ---- what the machine makes of a call, refused or not

pub keeps_old_or_new : (Q P : List ℕ) (a : Args) (c : Call) → Writing P c → (b : Bool) (t : Told) (h : State)
    → OldOrNew Q P (h a.number) → OldOrNew Q P (machine h (called a c b t) a.number)
keeps_old_or_new Q P a c w true t h g = g
keeps_old_or_new Q P a c w false t h g =
    subst (OldOrNew Q P) (sym (put_same a.number (step a.volume.size c t (h a.number)) h))
    (step_keeps a.volume.size Q P c w t (h a.number) g)

pub keeps_others : (a : Args) (c : Call) (b : Bool) (t : Told) (h : State) (j : ℕ) → (j ≡ a.number → ⊥) → machine h (called a c b t) j ≡ h j
keeps_others a c true t h j n = refl
keeps_others a c false t h j n = put_other a.number (step a.volume.size c t (h a.number)) h j n
