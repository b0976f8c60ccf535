-- Document 01's rules of the plain machine, each as what it holds after one more event, from the images v and the state h. One statement,
-- proved as `plain_machine`; it ties what the machine is fed to what it holds.
use Rattle.std.specs.Prelude.{◌≡◌, List, [], ◌∷◌, ℕ, replicate}
use Rattle.std.proofs.Math.Option.{Option, none, some}
use Rattle.mode.specs.Sealing.{Triple}
use Rattle.mode.specs.Scheme.{Place, local, tag, remote}
use Rattle.verdict.specs.Verdict.{Fits}
use Rattle.answers.specs.Rules.{Args, Volume}
use Rattle.history.specs.Volume.{Call, blank, first, second, third, mend, read, sector, sealing, refusal, mirror}
use Rattle.history.specs.Machine.{Held, gone, kept, State}
use Rattle.history.specs.Power.{Cut, Fate, finished, cut, Event, call, damage, leaves_call, hold}

module _ (vol : Volume) (v : Triple) (h : State) where
  -- what is held of sector j after an event
  abbrev pub held : Event → ℕ → Held
  held e j = hold mirror vol v h (e ∷ []) j

  -- a call that is not refused
  abbrev pub Accepted : Args → Call → Type 0
  Accepted a c = refusal mirror v a c ≡ none

  -- P fits the tag that a cut second stage has left
  abbrev pub NewTag : Args → List ℕ → Cut → Type 0
  NewTag a P k = Fits (sealing mirror a) a.number (sector (leaves_call mirror v a (second P) (cut k)) a) tag P

  pub record Rules : Type 0 where
    -- a refused call changes nothing, nor does a cut in a call that would be refused
    pub refused : (a : Args) (c : Call) (f : Fate) (k : ℕ) → refusal mirror v a c ≡ some k → (j : ℕ) → held (call a c f) j ≡ h j
    -- and no call changes what is held of another sector
    pub others : (a : Args) (c : Call) (f : Fate) (j : ℕ) → (j ≡ a.number → ⊥) → held (call a c f) j ≡ h j
    -- blank
    pub blank_finished : (a : Args) → Accepted a blank → held (call a blank finished) a.number ≡ kept (replicate a.volume.size 0) none
    pub blank_cut : (a : Args) (k : Cut) → Accepted a blank → held (call a blank (cut k)) a.number ≡ gone
    -- first stage, finished or cut
    pub first_kept : (a : Args) (P : List ℕ) (f : Fate) → Accepted a (first P) → (Q : List ℕ) (d : Option Place) → h a.number ≡ kept Q d
        → held (call a (first P) f) a.number ≡ kept Q (some local)
    pub first_gone : (a : Args) (P : List ℕ) (f : Fate) → Accepted a (first P) → h a.number ≡ gone → held (call a (first P) f) a.number ≡ gone
    -- second stage
    pub second_finished : (a : Args) (P : List ℕ) → Accepted a (second P) → held (call a (second P) finished) a.number ≡ kept P (some remote)
    pub second_new : (a : Args) (P : List ℕ) (k : Cut) → Accepted a (second P) → NewTag a P k → held (call a (second P) (cut k)) a.number ≡ kept P (some remote)
    pub second_old : (a : Args) (P : List ℕ) (k : Cut) → Accepted a (second P) → (NewTag a P k → ⊥) → held (call a (second P) (cut k)) a.number ≡ h a.number
    -- third stage
    pub third_finished : (a : Args) (P : List ℕ) → Accepted a (third P) → held (call a (third P) finished) a.number ≡ kept P none
    pub third_cut : (a : Args) (P : List ℕ) (k : Cut) → Accepted a (third P) → held (call a (third P) (cut k)) a.number ≡ kept P (some remote)
    -- mend
    pub mend_kept : (a : Args) → Accepted a mend → (Q : List ℕ) (d : Option Place) → h a.number ≡ kept Q d → held (call a mend finished) a.number ≡ kept Q none
    pub mend_gone : (a : Args) → Accepted a mend → h a.number ≡ gone → held (call a mend finished) a.number ≡ gone
    pub mend_cut : (a : Args) (k : Cut) → Accepted a mend → held (call a mend (cut k)) a.number ≡ h a.number
    -- read, finished or cut
    pub reads : (a : Args) (o : ℕ) (f : Fate) → Accepted a (read o) → held (call a (read o) f) a.number ≡ h a.number
    -- damage
    pub damage_sure : (p : Place) (i : ℕ) (b Q : List ℕ) → h i ≡ kept Q none → held (damage p i b) i ≡ kept Q (some p)
    pub damage_there : (p : Place) (i : ℕ) (b Q : List ℕ) → h i ≡ kept Q (some p) → held (damage p i b) i ≡ kept Q (some p)
    pub damage_elsewhere : (p q : Place) (i : ℕ) (b Q : List ℕ) → (q ≡ p → ⊥) → h i ≡ kept Q (some q) → held (damage p i b) i ≡ gone
    pub damage_gone : (p : Place) (i : ℕ) (b : List ℕ) → h i ≡ gone → held (damage p i b) i ≡ gone
    pub damage_others : (p : Place) (i : ℕ) (b : List ℕ) (j : ℕ) → (j ≡ i → ⊥) → held (damage p i b) j ≡ h j

abbrev pub PlainMachine : Type 0
PlainMachine = (vol : Volume) (v : Triple) (h : State) → Rules vol v h
