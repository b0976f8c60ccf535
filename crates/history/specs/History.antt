-- Demand 3: what holds after every list of events (document 01, "Power and the plain machine"). One statement, proved as `demand_3`, about
-- what callers get: `outcome` and `read_outcome` are the definitions that the calls' contracts cite.
use Rattle.std.specs.Prelude.{◌≡◌, ◌↔◌, List, ℕ, ◌<◌, length}
use Rattle.std.proofs.Math.Option.{none, some}
use Rattle.block.specs.Bytes.{Plain}
use Rattle.mode.specs.Sealing.{Triple}
use Rattle.mode.specs.Scheme.{Place, local, Scheme}
use Rattle.verdict.specs.Verdict.{Fits, FitsTwo, Means, lost}
use Rattle.answers.specs.Answers.{doubt_number}
use Rattle.answers.specs.Rules.{first_of, Args, Volume}
use Rattle.history.specs.Volume.{Call, first, mend, read, sector_of, early, outcome, read_outcome, mirror, Schemes}
use Rattle.history.specs.Machine.{Held, gone, kept, State, start}
use Rattle.history.specs.Power.{Fate, Event, call, Images, LentBytes, leaves_call, Allowed, AllAllowed, run, hold}

-- document 01's "proper" call, on sector i: it takes the volume's key, number, s and n, and none of the early refusals turns it away
pub record Proper (vol : Volume) (v : Triple) (i : ℕ) (a : Args) (c : Call) : Type 0 where
  pub takes : a.volume ≡ vol
  pub names : a.number ≡ i
  pub lent : LentBytes c
  pub passes : first_of (early v a c) ≡ none

-- a proper read into the output `out`
abbrev pub ProperRead : Volume → Triple → ℕ → Args → List ℕ → Type 0
ProperRead vol v i a out = Proper vol v i a (read (length out))

-- the volume's sector i
abbrev pub at : Volume → Triple → ℕ → Triple
at vol v i = sector_of vol.size i v

module _ (seals : Schemes) (vol : Volume) where
  -- the volume's sealing
  abbrev pub own : Scheme
  own = seals vol.key vol.number

  -- another plaintext than P fits two places of sector i
  abbrev pub Another : Triple → ℕ → List ℕ → Type 0
  Another v i P = (Q : List ℕ) × Plain vol.size Q × FitsTwo own i (at vol v i) Q × (Q ≡ P → ⊥)

  -- kept without doubt: it reads whole and gives its plaintext, and takes a first stage, which leaves a local place that fits
  pub record Sure (v : Triple) (i : ℕ) (P : List ℕ) : Type 0 where
    pub read_gives : (a : Args) (out : List ℕ) → ProperRead vol v i a out → read_outcome seals v a out ≡ (0, P)
    pub first_accepted : (a : Args) (Q : List ℕ) → Proper vol v i a (first Q) → (outcome seals v a (first Q)).0 ≡ 0
    pub first_leaves : (a : Args) (Q : List ℕ) → Proper vol v i a (first Q)
        → Fits own i (at vol (outcome seals v a (first Q)).1 i) local Q

  -- what a read of a sector kept in doubt at q answers, and leaves of the output: 7 exactly where another plaintext fits two places; else
  -- the plaintext, with whole if it fits q too, and doubtful at q if not
  pub data Reads (v : Triple) (i : ℕ) (P : List ℕ) (q : Place) (out : List ℕ) (r : ℕ × List ℕ) : Type 0 where
    clashes : Another v i P → r ≡ (7, out) → Reads v i P q out r
    fits_too : (Another v i P → ⊥) → Fits own i (at vol v i) q P → r ≡ (0, P) → Reads v i P q out r
    fits_not : (Another v i P → ⊥) → (Fits own i (at vol v i) q P → ⊥) → r ≡ (doubt_number q, P) → Reads v i P q out r

  pub record Unsure (v : Triple) (i : ℕ) (P : List ℕ) (q : Place) : Type 0 where
    pub reads : (a : Args) (out : List ℕ) → ProperRead vol v i a out → Reads v i P q out (read_outcome seals v a out)

  -- a kept sector is not lost, so no proper call on it refuses 6
  pub record Found (v : Triple) (i : ℕ) : Type 0 where
    pub not_lost : Means vol.size own i (at vol v i) lost → ⊥
    pub never_6 : (a : Args) (c : Call) → Proper vol v i a c → (outcome seals v a c).0 ≡ 6 → ⊥
    pub read_never_6 : (a : Args) (out : List ℕ) → ProperRead vol v i a out → (read_outcome seals v a out).0 ≡ 6 → ⊥

  -- what is promised of sector i, by what the machine holds of it
  abbrev pub Promise : Triple → ℕ → Held → Type 0
  Promise v i gone = Unit {0}
  Promise v i (kept P none) = Found v i × Sure v i P
  Promise v i (kept P (some q)) = Found v i × Unsure v i P q

  pub record Promised (v : Triple) (h : State) : Type 0 where
    pub held : (i : ℕ) → i < vol.count → Promise v i (h i)
    -- a mend refuses 7 exactly where a read does
    pub mend_7 : (i : ℕ) (a b : Args) (out : List ℕ) → ProperRead vol v i a out → Proper vol v i b mend
        → ((read_outcome seals v a out).0 ≡ 7) ↔ ((outcome seals v b mend).0 ≡ 7)
    -- a call changes no sector but the one that it names
    pub others : (a : Args) (c : Call) (f : Fate) → Allowed seals vol v (call a c f)
        → (j : ℕ) → (j ≡ a.number → ⊥) → at vol (leaves_call seals v a c f) j ≡ at vol v j

-- the demand, for the mode: from images of any bytes, all sectors gone, after every list of events; and the images keep their lengths
pub record Demand3 : Type 0 where
  pub from_gone : (vol : Volume) (v : Triple) → Images vol.size vol.count v
      → (es : List Event) → AllAllowed mirror vol v es
      → Promised mirror vol (run mirror vol v es) (hold mirror vol v start es) × Images vol.size vol.count (run mirror vol v es)
