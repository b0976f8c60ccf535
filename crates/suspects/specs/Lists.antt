-- Lists of calls on a volume's images and its map (change request S-4). Two theorems about what the map says after them, over what callers
-- get: `map_outcome` and `start_outcome` are the definitions that the calls' contracts cite; a read's is `map_read_outcome`, which has the same
-- answer and map (`MapCalls.read_same`). Proved as `map_rule` and `clear_is_whole`. No call here is cut: after a cut a map is started anew, so
-- another list begins, from a started map and images of any bytes.
use Rattle.std.specs.Prelude.{◌≡◌, Bool, false, cond, List, [], ◌∷◌, ℕ, ◌<◌, eqb, ltb, length}
use Rattle.std.proofs.Math.Option.{none}
use Rattle.bits.specs.Bits.{bit}
use Rattle.mode.specs.Sealing.{Triple}
use Rattle.answers.specs.Rules.{first_of, Volume, Args, count_and_map_rules}
use Rattle.map.specs.Map.{started, start_outcome}
use Rattle.history.specs.Volume.{Call, mirror}
use Rattle.history.specs.Power.{LentBytes}
use Rattle.history.specs.HistoryFrom.{AnyBytes}
use Rattle.report.specs.Survey.{WholeAt}
use Rattle.suspects.specs.Marks.{marks, map_outcome}
use Rattle.suspects.specs.Calls.{turned, call_order}

-- ---- what happens to the images and the map

pub record Disk : Type 0 where
  pub images : Triple
  pub map : List ℕ

abbrev pub disk : Triple → List ℕ → Disk
disk v m = record { images = v; map = m }

-- Whether a call is refused depends on the images and the map that it gets, so a refused one is not told apart here.
pub data Step : Type 0 where
  -- a call on one sector
  on_sector : Args → Call → Step
  -- the map is started, for so many sectors
  starts_map : ℕ → Step
  -- a survey, or a count of the suspects: images and map are lent to these to be read only
  looks_only : Step
  -- something else writes the images
  writes_images : Triple → Step

-- each step gets the images and the map as the one before left them
abbrev pub step_leaves : Disk → Step → Disk
step_leaves d (on_sector a c) = let r = map_outcome mirror d.images a c d.map in disk r.1.0 r.1.1
step_leaves d (starts_map n) = disk d.images (start_outcome n d.map).1
step_leaves d looks_only = d
step_leaves d (writes_images v) = disk v d.map

abbrev pub list_leaves : Disk → List Step → Disk
list_leaves d [] = d
list_leaves d (e ∷ es) = list_leaves (step_leaves d e) es

-- ---- the rule, run over the calls and their answers

-- what a caller can note of a step: a call, its sector's number and its answer's; a start, its n and its answer's number
pub data Noted : Type 0 where
  noted_call : Call → ℕ → ℕ → Noted
  noted_start : ℕ → ℕ → Noted
  noted_nothing : Noted

abbrev pub step_notes : Disk → Step → Noted
step_notes d (on_sector a c) = noted_call c a.number (map_outcome mirror d.images a c d.map).0
step_notes d (starts_map n) = noted_start n (start_outcome n d.map).0
step_notes d looks_only = noted_nothing
step_notes d (writes_images v) = noted_nothing

abbrev pub list_notes : Disk → List Step → List Noted
list_notes d [] = []
list_notes d (e ∷ es) = step_notes d e ∷ list_notes (step_leaves d e) es

-- what a note makes of the bit of sector i
abbrev pub ruled : ℕ → Bool → Noted → Bool
ruled i b (noted_call c j k) = cond (eqb i j) (turned (marks c k) b) b
ruled i b (noted_start n k) = cond (eqb k 0) (ltb i n) b
ruled i b noted_nothing = b

abbrev pub ruled_all : ℕ → Bool → List Noted → Bool
ruled_all i b [] = b
ruled_all i b (x ∷ xs) = ruled_all i (ruled i b x) xs

-- from a started map, over every list of calls, finished or refused, and whatever is written to the images between them, each bit equals
-- the rule run over the calls and their answers
abbrev pub MapRule : Type 0
MapRule = (n : ℕ) (v : Triple) (es : List Step) (i : ℕ)
    → bit i (list_leaves (disk v (started n)) es).map ≡ ruled_all i (ltb i n) (list_notes (disk v (started n)) es)

-- ---- a clear bit is a whole sector's

-- a step that takes the volume's key, number, s and n, unless it is refused; and nothing else writes the images
abbrev pub Takes : Volume → Disk → Step → Type 0
Takes vol d (on_sector a c) = (first_of (call_order d.images a c d.map) ≡ none → a.volume ≡ vol) × LentBytes c
Takes vol d (starts_map n) = first_of (count_and_map_rules n (length d.map)) ≡ none → n ≡ vol.count
Takes vol d looks_only = Unit {0}
Takes vol d (writes_images v) = ⊥

abbrev pub AllTake : Volume → Disk → List Step → Type 0
AllTake vol d [] = Unit {0}
AllTake vol d (e ∷ es) = Takes vol d e × AllTake vol (step_leaves d e) es

-- from a map started for the volume's n and images of any bytes, after such a list each clear bit below n is a whole sector's, by fitting
abbrev pub ClearIsWhole : Type 0
ClearIsWhole = (vol : Volume) (v : Triple) → AnyBytes v → (es : List Step) → AllTake vol (disk v (started vol.count)) es
    → (i : ℕ) → i < vol.count → bit i (list_leaves (disk v (started vol.count)) es).map ≡ false
    → WholeAt vol (list_leaves (disk v (started vol.count)) es).images i
