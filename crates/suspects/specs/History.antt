-- Demand 3 for the calls with a map (document 01 with change request S-4): its lists of events, each call lent a map of any words, and its
-- promise, of what callers get: `map_outcome` and `map_read_outcome` are the definitions that the calls' contracts cite. The machine is the one
-- of document 01, and 13 is one of the listed refusals. Proved as `demand_3_with_maps`, from `demand_3`.
use Rattle.std.specs.Prelude.{◌≡◌, ◌↔◌, false, List, [], ◌∷◌, ℕ, ◌<◌, length}
use Rattle.std.proofs.Math.Option.{Option, none, some}
use Rattle.bits.specs.Bits.{mark}
use Rattle.block.specs.Bytes.{Plain}
use Rattle.mode.specs.Sealing.{Triple}
use Rattle.mode.specs.Scheme.{Place, local, wide}
use Rattle.verdict.specs.Verdict.{Fits, Means, lost}
use Rattle.answers.specs.Rules.{first_of, Args, Volume, map_words}
use Rattle.history.specs.Volume.{Call, first, mend, sector, sealing, write, unless, landed, mirror}
use Rattle.history.specs.Machine.{Held, gone, kept, Seen, called, damaged, State, machine, start}
use Rattle.history.specs.Power.{Fate, finished, cut, Event, call, damage, Images, LentBytes, CutOf, torn, is_refused, told}
use Rattle.history.specs.History.{Proper, ProperRead, at, own, Reads}
use Rattle.suspects.specs.Marks.{map_outcome, map_read_outcome}
use Rattle.suspects.specs.Calls.{call_order}

-- ---- events

-- an event, and the map that its call is lent; for damage it says nothing
pub record Lent : Type 0 where
  pub event : Event
  pub map : List ℕ

-- what turns a call away, 13 among the rest
abbrev pub lent_refusal : Triple → Args → Call → List ℕ → Option ℕ
lent_refusal v a c m = first_of (call_order v a c m)

-- the images after a call with this fate; one that is or would be refused leaves them as they were
abbrev pub leaves_lent : Triple → Args → Call → Fate → List ℕ → Triple
leaves_lent v a c finished m = (map_outcome mirror v a c m).1.0
leaves_lent v a c (cut k) m = unless (lent_refusal v a c m) v (landed mirror (torn k) v a c)

module _ (vol : Volume) where
  -- the images after an event
  abbrev pub lent_leaves : Triple → Event → List ℕ → Triple
  lent_leaves v (call a c f) m = leaves_lent v a c f m
  lent_leaves v (damage p i b) m = write vol.size i p b v

  -- what the machine is fed
  abbrev pub lent_seen : Triple → Event → List ℕ → Seen
  lent_seen v (call a c f) m = called a c (is_refused (lent_refusal v a c m)) (told (sealing mirror a) a.number (sector (leaves_lent v a c f m) a) c f)
  lent_seen v (damage p i b) m = damaged p i

  -- every call takes the volume's key, number, s and n but one that is or would be refused
  abbrev pub LentAllowed : Triple → Event → List ℕ → Type 0
  LentAllowed v (call a c f) m = (lent_refusal v a c m ≡ none → a.volume ≡ vol) × LentBytes c × CutOf vol.size f
  LentAllowed v (damage p i b) m = (i < vol.count) × Plain (wide vol.size p) b

  abbrev pub AllLentAllowed : Triple → List Lent → Type 0
  AllLentAllowed v [] = Unit {0}
  AllLentAllowed v (l ∷ ls) = LentAllowed v l.event l.map × AllLentAllowed (lent_leaves v l.event l.map) ls

  -- the images after a list of events, and what the machine holds after it
  abbrev pub run_lent : Triple → List Lent → Triple
  run_lent v [] = v
  run_lent v (l ∷ ls) = run_lent (lent_leaves v l.event l.map) ls

  abbrev pub hold_lent : Triple → State → List Lent → State
  hold_lent v h [] = h
  hold_lent v h (l ∷ ls) = hold_lent (lent_leaves v l.event l.map) (machine h (lent_seen v l.event l.map)) ls

  -- ---- the promise, with every map of as many words as n needs

  abbrev pub RightMap : List ℕ → Type 0
  RightMap m = length m ≡ map_words vol.count

  -- a read's answer and output
  abbrev pub read_with : Triple → Args → List ℕ → List ℕ → ℕ × List ℕ
  read_with v a out m = let r = map_read_outcome mirror v a out m in (r.0, r.1.0)

  -- kept without doubt: besides what document 01 promises, a read clears the sector's bit
  pub record SureLent (v : Triple) (i : ℕ) (P : List ℕ) : Type 0 where
    pub read_gives : (a : Args) (out m : List ℕ) → ProperRead vol v i a out → RightMap m
        → map_read_outcome mirror v a out m ≡ (0, (P, mark i false m))
    pub first_accepted : (a : Args) (Q m : List ℕ) → Proper vol v i a (first Q) → RightMap m → (map_outcome mirror v a (first Q) m).0 ≡ 0
    pub first_leaves : (a : Args) (Q m : List ℕ) → Proper vol v i a (first Q) → RightMap m
        → Fits (own mirror vol) i (at vol (map_outcome mirror v a (first Q) m).1.0 i) local Q

  pub record UnsureLent (v : Triple) (i : ℕ) (P : List ℕ) (q : Place) : Type 0 where
    pub reads : (a : Args) (out m : List ℕ) → ProperRead vol v i a out → RightMap m → Reads mirror vol v i P q out (read_with v a out m)

  pub record FoundLent (v : Triple) (i : ℕ) : Type 0 where
    pub not_lost : Means vol.size (own mirror vol) i (at vol v i) lost → ⊥
    pub never_6 : (a : Args) (c : Call) (m : List ℕ) → Proper vol v i a c → RightMap m → (map_outcome mirror v a c m).0 ≡ 6 → ⊥
    pub read_never_6 : (a : Args) (out m : List ℕ) → ProperRead vol v i a out → RightMap m → (map_read_outcome mirror v a out m).0 ≡ 6 → ⊥

  abbrev pub PromiseLent : Triple → ℕ → Held → Type 0
  PromiseLent v i gone = Unit {0}
  PromiseLent v i (kept P none) = FoundLent v i × SureLent v i P
  PromiseLent v i (kept P (some q)) = FoundLent v i × UnsureLent v i P q

  pub record PromisedLent (v : Triple) (h : State) : Type 0 where
    pub held : (i : ℕ) → i < vol.count → PromiseLent v i (h i)
    -- a mend refuses 7 exactly where a read does
    pub mend_7 : (i : ℕ) (a b : Args) (out m k : List ℕ) → ProperRead vol v i a out → Proper vol v i b mend → RightMap m → RightMap k
        → ((map_read_outcome mirror v a out m).0 ≡ 7) ↔ ((map_outcome mirror v b mend k).0 ≡ 7)
    -- a call changes no sector but the one that it names
    pub others : (a : Args) (c : Call) (f : Fate) (m : List ℕ) → LentAllowed v (call a c f) m
        → (j : ℕ) → (j ≡ a.number → ⊥) → at vol (leaves_lent v a c f m) j ≡ at vol v j

-- from images of any bytes, all sectors gone, after every list of events; and the images keep their lengths
pub record Demand3WithMaps : Type 0 where
  pub from_gone : (vol : Volume) (v : Triple) → Images vol.size vol.count v → (ls : List Lent) → AllLentAllowed vol v ls
      → PromisedLent vol (run_lent vol v ls) (hold_lent vol v start ls) × Images vol.size vol.count (run_lent vol v ls)
