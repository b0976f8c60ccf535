-- The plain machine (document 01, "Power and the plain machine"): what it sees of an event, and what it holds of each sector. No image
-- stands here: `Seen` is all that it is fed. Assumes nothing: these are definitions.
use Rattle.std.specs.Prelude.{Bool, true, false, cond, List, ℕ, eqb, replicate}
use Rattle.std.proofs.Math.Option.{Option, none, some}
use Rattle.mode.specs.Scheme.{Place, local, tag, remote}
use Rattle.answers.specs.Rules.{Args}
use Rattle.history.specs.Volume.{Call, blank, first, second, third, mend, read}

-- ---- what it sees

-- how a call ended
pub data Told : Type 0 where
  told_finished : Told
  -- cut; for a second stage, whether the tag is new, for any other call false
  told_cut : Bool → Told

-- an event's kind and its arguments but the images; of a call, whether a listed refusal turns it away, and how it ended
pub data Seen : Type 0 where
  called : Args → Call → Bool → Told → Seen
  damaged : Place → ℕ → Seen

-- ---- what it holds

-- of a sector: gone, or kept with a plaintext and at most one place in doubt
pub data Held : Type 0 where
  gone : Held
  kept : List ℕ → Option Place → Held

abbrev pub doubt_local : Held → Held
doubt_local gone = gone
doubt_local (kept Q d) = kept Q (some local)

abbrev pub cleared : Held → Held
cleared gone = gone
cleared (kept Q d) = kept Q none

-- a call that is not refused, on a sector of s bytes
abbrev pub step : ℕ → Call → Told → Held → Held
step s blank told_finished x = kept (replicate s 0) none
step s blank (told_cut b) x = gone
step s (first P) told_finished x = doubt_local x
step s (first P) (told_cut b) x = doubt_local x
step s (second P) told_finished x = kept P (some remote)
step s (second P) (told_cut true) x = kept P (some remote)
step s (second P) (told_cut false) x = x
step s (third P) told_finished x = kept P none
step s (third P) (told_cut b) x = kept P (some remote)
step s mend told_finished x = cleared x
step s mend (told_cut b) x = x
step s (read o) told_finished x = x
step s (read o) (told_cut b) x = x

abbrev pub is_place : Place → Place → Bool
is_place local local = true
is_place local tag = false
is_place local remote = false
is_place tag local = false
is_place tag tag = true
is_place tag remote = false
is_place remote local = false
is_place remote tag = false
is_place remote remote = true

-- after damage to p: doubt there, unless there was doubt elsewhere
abbrev pub after_damage : Place → Held → Held
after_damage p gone = gone
after_damage p (kept Q none) = kept Q (some p)
after_damage p (kept Q (some q)) = cond (is_place q p) (kept Q (some q)) gone

-- what is held of each sector
abbrev pub State : Type 0
State = ℕ → Held

unfoldable pub put : ℕ → Held → State → State
put i x h j = cond (eqb j i) x (h j)

-- a call that is or would be refused changes nothing
abbrev pub machine : State → Seen → State
machine h (called a c true m) = h
machine h (called a c false m) = put a.number (step a.volume.size c m (h a.number)) h
machine h (damaged p i) = put i (after_damage p (h i)) h

-- all sectors start gone
abbrev pub start : State
start i = gone
