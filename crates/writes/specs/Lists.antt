-- Lists of calls on a volume's images and its map that have writes in one call among them (change requests S-4 and S-6). A write is the list
-- of its calls, so the two theorems about the map hold of these lists too. One statement, proved as `write_lists`, about what callers get.
use Rattle.std.specs.Prelude.{◌≡◌, Bool, false, cond, List, [], ◌∷◌, ◌++◌, ℕ, ◌<◌, eqb, ltb, length}
use Rattle.std.proofs.Math.Option.{none}
use Rattle.bits.specs.Bits.{bit}
use Rattle.block.specs.Bytes.{Bytes}
use Rattle.mode.specs.Sealing.{Triple}
use Rattle.answers.specs.Rules.{first_of, Args, Volume}
use Rattle.map.specs.Map.{started}
use Rattle.history.specs.HistoryFrom.{AnyBytes}
use Rattle.history.specs.Power.{LentBytes}
use Rattle.history.specs.Volume.{Call, mend, read, mirror}
use Rattle.report.specs.Survey.{WholeAt}
use Rattle.suspects.specs.Marks.{marks}
use Rattle.suspects.specs.Calls.{turned, call_order}
use Rattle.suspects.specs.Lists.{Disk, disk, Step, on_sector, starts_map, looks_only, writes_images, step_leaves, list_leaves, Noted, step_notes, ruled, Takes}
use Rattle.writes.specs.Write.{write_outcome}
use Rattle.writes.specs.History.{write_calls}

pub data WriteStep : Type 0 where
  -- a step of change request S-4
  other : Step → WriteStep
  -- a write of a plaintext in one call
  one_call : Args → List ℕ → WriteStep

-- each step gets the images and the map as the one before left them
abbrev pub write_step_leaves : Disk → WriteStep → Disk
write_step_leaves d (other e) = step_leaves d e
write_step_leaves d (one_call a P) = let r = write_outcome mirror d.images a P d.map in disk r.1.0 r.1.1

abbrev pub write_list_leaves : Disk → List WriteStep → Disk
write_list_leaves d [] = d
write_list_leaves d (e ∷ es) = write_list_leaves (write_step_leaves d e) es

-- calls on one sector, as steps
abbrev pub call_steps : Args → List Call → List Step
call_steps a [] = []
call_steps a (c ∷ cs) = on_sector a c ∷ call_steps a cs

-- the steps with the calls of each write in its place
abbrev pub steps_of : Disk → WriteStep → List Step
steps_of d (other e) = e ∷ []
steps_of d (one_call a P) = call_steps a (write_calls d.images a P d.map)

abbrev pub steps : Disk → List WriteStep → List Step
steps d [] = []
steps d (e ∷ es) = steps_of d e ++ steps (write_step_leaves d e) es

-- a write that takes the volume's key, number, s and n, unless it is refused
abbrev pub WriteTakes : Volume → Disk → WriteStep → Type 0
WriteTakes vol d (other e) = Takes vol d e
WriteTakes vol d (one_call a P) = (first_of (call_order d.images a (read (length P)) d.map) ≡ none → a.volume ≡ vol) × Bytes P

abbrev pub AllWriteTake : Volume → Disk → List WriteStep → Type 0
AllWriteTake vol d [] = Unit {0}
AllWriteTake vol d (e ∷ es) = WriteTakes vol d e × AllWriteTake vol (write_step_leaves d e) es

-- ---- the rule, run over the calls, the writes and their answers

-- what a caller can note of a step: of a write its sector's number and its answer's
pub data WriteNoted : Type 0 where
  noted_step : Noted → WriteNoted
  noted_write : ℕ → ℕ → WriteNoted

abbrev pub write_notes : Disk → WriteStep → WriteNoted
write_notes d (other e) = noted_step (step_notes d e)
write_notes d (one_call a P) = noted_write a.number (write_outcome mirror d.images a P d.map).0

abbrev pub all_notes : Disk → List WriteStep → List WriteNoted
all_notes d [] = []
all_notes d (e ∷ es) = write_notes d e ∷ all_notes (write_step_leaves d e) es

-- what a note makes of the bit of sector i; a write's is that of a mend with the same answer
abbrev pub write_ruled : ℕ → Bool → WriteNoted → Bool
write_ruled i b (noted_step x) = ruled i b x
write_ruled i b (noted_write j k) = cond (eqb i j) (turned (marks mend k) b) b

abbrev pub all_ruled : ℕ → Bool → List WriteNoted → Bool
all_ruled i b [] = b
all_ruled i b (x ∷ xs) = all_ruled i (write_ruled i b x) xs

-- plaintexts and images are lists of bytes
abbrev pub StepBytes : WriteStep → Type 0
StepBytes (other (on_sector a c)) = LentBytes c
StepBytes (other (starts_map n)) = Unit {0}
StepBytes (other looks_only) = Unit {0}
StepBytes (other (writes_images v)) = AnyBytes v
StepBytes (one_call a P) = Bytes P

abbrev pub AllStepBytes : List WriteStep → Type 0
AllStepBytes [] = Unit {0}
AllStepBytes (e ∷ es) = StepBytes e × AllStepBytes es

-- ---- what is proved

pub record WriteLists : Type 0 where
  -- a list leaves the images and the map that it leaves with each write's calls in its place
  pub as_steps : (d : Disk) (es : List WriteStep) → write_list_leaves d es ≡ list_leaves d (steps d es)
  -- from a started map each bit equals the rule run over the calls, the writes and their answers
  pub map_rule : (n : ℕ) (v : Triple) → AnyBytes v → (es : List WriteStep) → AllStepBytes es → (i : ℕ)
      → let d = disk v (started n) in bit i (write_list_leaves d es).map ≡ all_ruled i (ltb i n) (all_notes d es)
  -- and where all take the volume's key, number, s and n, and nothing else writes the images, each clear bit below n is a whole sector's
  pub clear_is_whole : (vol : Volume) (v : Triple) → AnyBytes v → (es : List WriteStep) → AllWriteTake vol (disk v (started vol.count)) es
      → (i : ℕ) → i < vol.count → let d = disk v (started vol.count) in
      bit i (write_list_leaves d es).map ≡ false → WholeAt vol (write_list_leaves d es).images i
