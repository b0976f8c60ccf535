-- Events on a volume: what calls, power cuts and damage do to the images, and what the machine is fed of them (document 01, "Power and the
-- plain machine"). Assumes nothing: these are definitions. `Cuts` has the document's rule for a cut, which is proved to be the one here.
use Rattle.std.specs.Prelude.{◌≡◌, Bool, true, false, cond, List, [], ◌∷◌, ℕ, ◌<◌, ◌*◌}
use Rattle.std.proofs.Math.Option.{Option, none, some}
use Rattle.block.specs.Bytes.{Bytes, Plain}
use Rattle.mode.specs.Sealing.{Triple}
use Rattle.mode.specs.Scheme.{Place, local, tag, remote, on, wide, Scheme}
use Rattle.verdict.specs.Verdict.{fits}
use Rattle.answers.specs.Rules.{Args, Volume}
use Rattle.history.specs.Volume.{Call, blank, first, second, third, mend, read, write, unless, sector, sealing, refusal, landed, after, Schemes}
use Rattle.history.specs.Machine.{Told, told_finished, told_cut, Seen, called, damaged, State, machine}

-- three images of n times s, n times 16 and n times s bytes
pub record Images (s n : ℕ) (v : Triple) : Type 0 where
  pub images : (p : Place) → Plain (n * wide s p) (on v p)

-- a lent plaintext is a list of bytes, of any length
abbrev pub LentBytes : Call → Type 0
LentBytes blank = Unit {0}
LentBytes (first P) = Bytes P
LentBytes (second P) = Bytes P
LentBytes (third P) = Bytes P
LentBytes mend = Unit {0}
LentBytes (read o) = Unit {0}

-- ---- events

-- What a cut leaves in the places that the call writes. A local or remote sector holds any s bytes, of which the old ones are one case; the
-- tag is the old one or the one that the call writes.
pub record Cut : Type 0 where
  pub in_local : List ℕ
  pub in_remote : List ℕ
  pub new_tag : Bool

-- Whether a call is refused depends on the images that it gets, so a refused one is not told apart here.
pub data Fate : Type 0 where
  finished : Fate
  cut : Cut → Fate

pub data Event : Type 0 where
  call : Args → Call → Fate → Event
  damage : Place → ℕ → List ℕ → Event

-- what a cut leaves in local and remote is s bytes
abbrev pub CutOf : ℕ → Fate → Type 0
CutOf s finished = Unit {0}
CutOf s (cut k) = Plain s k.in_local × Plain s k.in_remote

-- the bytes that a cut leaves in a place that the call writes, of those that it writes and those that it found
abbrev pub torn : Cut → Triple → Triple → Place → List ℕ
torn k written found local = k.in_local
torn k written found tag = cond k.new_tag written.tag found.tag
torn k written found remote = k.in_remote

-- ---- what the machine is fed

abbrev pub is_refused : Option ℕ → Bool
is_refused none = false
is_refused (some k) = true

-- whether the tag is new after a cut second stage that left t in sector i; an old tag that equals the new one counts as new
abbrev pub tag_told : Scheme → ℕ → Triple → Call → Bool
tag_told S i t blank = false
tag_told S i t (first P) = false
tag_told S i t (second P) = fits S i t tag P
tag_told S i t (third P) = false
tag_told S i t mend = false
tag_told S i t (read o) = false

abbrev pub told : Scheme → ℕ → Triple → Call → Fate → Told
told S i t c finished = told_finished
told S i t c (cut k) = told_cut (tag_told S i t c)

-- ---- lists of events

module _ (seals : Schemes) where
  -- The images after a call with this fate: a finished one leaves what the call does; one that is or would be refused leaves them as they
  -- were.
  unfoldable pub leaves_call : Triple → Args → Call → Fate → Triple
  leaves_call v a c finished = after seals v a c
  leaves_call v a c (cut k) = unless (refusal seals v a c) v (landed seals (torn k) v a c)

  module _ (vol : Volume) where
    -- the images after an event
    abbrev pub leaves : Triple → Event → Triple
    leaves v (call a c f) = leaves_call v a c f
    leaves v (damage p i b) = write vol.size i p b v

    abbrev pub seen : Triple → Event → Seen
    seen v (call a c f) =
        called a c (is_refused (refusal seals v a c)) (told (sealing seals a) a.number (sector (leaves_call v a c f) a) c f)
    seen v (damage p i b) = damaged p i

    -- every call takes the volume's key, number, s and n but one that is or would be refused
    abbrev pub Allowed : Triple → Event → Type 0
    Allowed v (call a c f) = (refusal seals v a c ≡ none → a.volume ≡ vol) × LentBytes c × CutOf vol.size f
    Allowed v (damage p i b) = (i < vol.count) × Plain (wide vol.size p) b

    -- each event gets the images as the one before left them
    abbrev pub AllAllowed : Triple → List Event → Type 0
    AllAllowed v [] = Unit {0}
    AllAllowed v (e ∷ es) = Allowed v e × AllAllowed (leaves v e) es

    -- the images after a list of events
    abbrev pub run : Triple → List Event → Triple
    run v [] = v
    run v (e ∷ es) = run (leaves v e) es

    -- what the machine holds after it
    abbrev pub hold : Triple → State → List Event → State
    hold v h [] = h
    hold v h (e ∷ es) = hold (leaves v e) (machine h (seen v e)) es
