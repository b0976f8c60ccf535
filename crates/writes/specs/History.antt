-- The history of a volume with writes in one call (change request S-6): lists of document 01's events and of writes, each write over its
-- calls as a list on the plain machine, where power may go in any of them or between two. One statement, proved as `laptop_history`, about
-- what callers get: `write_outcome`, `map_outcome` and `map_read_outcome` are the definitions that the calls' contracts cite.
use Rattle.std.specs.Prelude.{◌≡◌, ◌⊎◌, true, List, [], ◌∷◌, ◌++◌, ℕ, length}
use Rattle.std.proofs.Math.Option.{Option, none, some}
use Rattle.block.specs.Bytes.{Bytes}
use Rattle.mode.specs.Sealing.{Triple}
use Rattle.mode.specs.Scheme.{Place}
use Rattle.verdict.specs.Verdict.{Means, clashing}
use Rattle.answers.specs.Rules.{first_of, Args, Volume}
use Rattle.history.specs.Volume.{Call, read, mirror}
use Rattle.history.specs.Machine.{Held, kept, State, start}
use Rattle.history.specs.Power.{Cut, finished, cut, call, Images, CutOf}
use Rattle.history.specs.History.{at, own}
use Rattle.suspects.specs.Marks.{is_finished, map_outcome}
use Rattle.suspects.specs.Calls.{call_order}
use Rattle.suspects.specs.History.{Lent, lent_leaves, LentAllowed, run_lent, hold_lent, PromisedLent}
use Rattle.writes.specs.Write.{following, calls_leave, write_outcome}
use Rattle.writes.specs.Meaning.{WritePasses}

-- ---- events

-- where power goes in a write: before the next of its calls begins, in that call, or after it has finished
pub data WriteCut : Type 0 where
  before_call : WriteCut
  in_call : Cut → WriteCut
  after_call : WriteCut → WriteCut

-- Whether a write is refused depends on the images and the map that it gets, so a refused one is not told apart here.
pub data WriteFate : Type 0 where
  completed : WriteFate
  cut_at : WriteCut → WriteFate

pub data LaptopEvent : Type 0 where
  -- one of document 01's events, with the map that its call is lent
  single : Lent → LaptopEvent
  -- a write of a plaintext, with the map that it is lent
  write : Args → List ℕ → List ℕ → WriteFate → LaptopEvent

-- ---- a write as the list of its calls

-- it judges the sector by a read, mends it if doubtful, then runs the stages
abbrev pub write_calls : Triple → Args → List ℕ → List ℕ → List Call
write_calls v a P m = read (length P) ∷ following P (map_outcome mirror v a (read (length P)) m).0

-- a call as an event
abbrev pub finished_call : Args → Call → List ℕ → Lent
finished_call a c m = record { event = call a c finished; map = m }

abbrev pub cut_call : Args → Call → Cut → List ℕ → Lent
cut_call a c k m = record { event = call a c (cut k); map = m }

-- the events of calls on one sector, each of which gets the images and the map as the one before left them
abbrev pub call_events : Args → WriteFate → List Call → Triple × List ℕ → List Lent
call_events a f [] d = []
call_events a completed (c ∷ cs) d = finished_call a c d.1 ∷ call_events a completed cs (map_outcome mirror d.0 a c d.1).1
call_events a (cut_at before_call) (c ∷ cs) d = []
call_events a (cut_at (in_call k)) (c ∷ cs) d = cut_call a c k d.1 ∷ []
call_events a (cut_at (after_call k)) (c ∷ cs) d = finished_call a c d.1 ∷ call_events a (cut_at k) cs (map_outcome mirror d.0 a c d.1).1

-- what the machine is fed of an event: a write is the events of its calls
abbrev pub events : Triple → LaptopEvent → List Lent
events v (single l) = l ∷ []
events v (write a P m f) = call_events a f (write_calls v a P m) (v, m)

-- what a cut leaves in local and remote is s bytes
abbrev pub WriteCutOf : ℕ → WriteCut → Type 0
WriteCutOf s before_call = Unit {0}
WriteCutOf s (in_call k) = CutOf s (cut k)
WriteCutOf s (after_call k) = WriteCutOf s k

abbrev pub WriteFateOf : ℕ → WriteFate → Type 0
WriteFateOf s completed = Unit {0}
WriteFateOf s (cut_at k) = WriteCutOf s k

-- kept with the old plaintext Q or the new one P
abbrev pub OldOrNew : List ℕ → List ℕ → Held → Type 0
OldOrNew Q P x = (d : Option Place) × ((x ≡ kept Q d) ⊎ (x ≡ kept P d))

module _ (vol : Volume) where
  -- ---- lists of events

  -- the images after an event; a completed write leaves what the call does
  abbrev pub laptop_leaves : Triple → LaptopEvent → Triple
  laptop_leaves v (single l) = lent_leaves vol v l.event l.map
  laptop_leaves v (write a P m completed) = (write_outcome mirror v a P m).1.0
  laptop_leaves v (write a P m (cut_at k)) = run_lent vol v (events v (write a P m (cut_at k)))

  -- every call and every write takes the volume's key, number, s and n but one that is or would be refused
  abbrev pub LaptopAllowed : Triple → LaptopEvent → Type 0
  LaptopAllowed v (single l) = LentAllowed vol v l.event l.map
  LaptopAllowed v (write a P m f) = (first_of (call_order v a (read (length P)) m) ≡ none → a.volume ≡ vol) × Bytes P × WriteFateOf vol.size f

  -- each event gets the images as the one before left them
  abbrev pub AllLaptopAllowed : Triple → List LaptopEvent → Type 0
  AllLaptopAllowed v [] = Unit {0}
  AllLaptopAllowed v (e ∷ es) = LaptopAllowed v e × AllLaptopAllowed (laptop_leaves v e) es

  -- the images after a list, and what the machine holds after it
  abbrev pub run_laptop : Triple → List LaptopEvent → Triple
  run_laptop v [] = v
  run_laptop v (e ∷ es) = run_laptop (laptop_leaves v e) es

  abbrev pub hold_laptop : Triple → State → List LaptopEvent → State
  hold_laptop v h [] = h
  hold_laptop v h (e ∷ es) = hold_laptop (laptop_leaves v e) (hold_lent vol v h (events v e)) es

  -- ---- the promise of a write

  -- sector i is not clashing, by fitting
  abbrev pub NotClashing : Triple → ℕ → Type 0
  NotClashing v i = Means vol.size (own mirror vol) i (at vol v i) clashing → ⊥

  -- of a write from the images v, where the machine holds h
  module _ (v : Triple) (h : State) (a : Args) (P m : List ℕ) where
    -- what is held after it
    abbrev pub held_after : WriteFate → State
    held_after f = hold_lent vol v h (events v (write a P m f))

    pub record WriteKeeps (f : WriteFate) : Type 0 where
      -- a sector that was kept is kept afterwards, with the old plaintext or the new, wherever power goes; clashing or not
      pub old_or_new : (Q : List ℕ) (d : Option Place) → h a.number ≡ kept Q d → OldOrNew Q P (held_after f a.number)
      -- one that is refused changes nothing
      pub refused : (k : ℕ) → first_of (call_order v a (read (length P)) m) ≡ some k → (laptop_leaves v (write a P m f) ≡ v) × (held_after f ≡ h)
      -- and none changes another sector, or what is held of it
      pub others : (j : ℕ) → (j ≡ a.number → ⊥) → (at vol (laptop_leaves v (write a P m f)) j ≡ at vol v j) × (held_after f j ≡ h j)
      -- demand 3 holds of the images that it leaves: what is held is what calls then give
      pub demand_after : PromisedLent vol (laptop_leaves v (write a P m f)) (held_after f)

    pub record WritePromised : Type 0 where
      -- power goes in any call of the write, and leaves any k there, after the calls before it have finished,
      pub power_in : (k : Cut) (xs : List Call) (c : Call) (ys : List Call) → write_calls v a P m ≡ xs ++ (c ∷ ys)
          → (f : WriteCut) × (CutOf vol.size (cut k) → WriteCutOf vol.size f)
          × (events v (write a P m (cut_at f)) ≡ call_events a completed xs (v, m) ++ (cut_call a c k (calls_leave mirror a xs (v, m)).1 ∷ []))
      -- or between any two, before the first or behind the last
      pub power_between : (xs ys : List Call) → write_calls v a P m ≡ xs ++ ys
          → (f : WriteCut) × WriteCutOf vol.size f × (events v (write a P m (cut_at f)) ≡ call_events a completed xs (v, m))
      -- wherever it goes
      pub keeps : (f : WriteFate) → LaptopAllowed v (write a P m f) → WriteKeeps f
      -- after a finished write, one that was not refused, the sector is kept with the new plaintext, without doubt
      pub finished_write : LaptopAllowed v (write a P m completed) → is_finished (write_outcome mirror v a P m).0 ≡ true → held_after completed a.number ≡ kept P none
      -- and a sector that is kept and not clashing takes a write that no refusal before 6 turns away
      pub accepted : a.volume ≡ vol → Bytes P → WritePasses v a P m → (Q : List ℕ) (d : Option Place) → h a.number ≡ kept Q d → NotClashing v a.number
          → is_finished (write_outcome mirror v a P m).0 ≡ true
      -- the images that a completed write leaves are those to which the events of its calls lead
      pub as_calls : run_lent vol v (events v (write a P m completed)) ≡ (write_outcome mirror v a P m).1.0

  pub record PromisedLaptop (v : Triple) (h : State) : Type 0 where
    -- what demand 3 promises
    pub demand : PromisedLent vol v h
    pub images : Images vol.size vol.count v
    pub each_write : (a : Args) (P m : List ℕ) → WritePromised v h a P m

-- from images of any bytes, all sectors gone, after every list of events and writes
pub record LaptopHistory : Type 0 where
  pub from_gone : (vol : Volume) (v : Triple) → Images vol.size vol.count v → (es : List LaptopEvent) → AllLaptopAllowed vol v es
      → PromisedLaptop vol (run_laptop vol v es) (hold_laptop vol v start es)
