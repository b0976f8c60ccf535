-- What is proved of each call with a map: its refusals in the request's order, and every bit of the map. Proved as `map_calls`.
use Rattle.std.specs.Prelude.{◌≡◌, Bool, true, false, cond, List, ◌++◌, ◌⊎◌, ℕ, eqb, length}
use Rattle.std.proofs.Math.Option.{none, some}
use Rattle.bits.specs.Bits.{Words, bit}
use Rattle.mode.specs.Sealing.{Triple}
use Rattle.answers.specs.Rules.{Rule, first_of, Args, Volume, map_words}
use Rattle.history.specs.Volume.{Call, mend, read, lengths, late, sector, sealing, mirror, outcome, read_outcome}
use Rattle.report.specs.Survey.{refused, survey_outcome}
use Rattle.suspects.specs.declared.Mark.{Mark}
use Rattle.suspects.specs.declared.Mark.TheVariants.{Clears, Sets, Keeps}
use Rattle.suspects.specs.Marks.{is_finished, first_rules, marks, marked, map_outcome, map_read_outcome, map_survey_refusal, map_survey_outcome}

-- what a mark makes of a bit
abbrev pub turned : Mark → Bool → Bool
turned Clears b = false
turned Sets b = true
turned Keeps b = b

-- all refusals of a call on one sector, in order: 1, 14, 2, 8, 13, 9, then 3, and at last 6 and 7, or 10
abbrev pub call_order : Triple → Args → Call → List ℕ → List Rule
call_order v a c m = first_rules v a m ++ (lengths a c ++ late (sealing mirror a) a.number (sector v a) c)

-- the call is a read or a mend
abbrev pub Judges : Call → Type 0
Judges c = (c ≡ mend) ⊎ ((o : ℕ) × (c ≡ read o))

pub record MapCalls : Type 0 where
  -- the first refusal of the order is the answer, and changes nothing but the bit of a read or mend that ends lost or clashing
  pub refuses : (v : Triple) (a : Args) (c : Call) (m : List ℕ) (k : ℕ) → first_of (call_order v a c m) ≡ some k
      → map_outcome mirror v a c m ≡ (k, (v, marked (marks c k) a.number m))
  pub read_refuses : (v : Triple) (a : Args) (out m : List ℕ) (k : ℕ) → first_of (call_order v a (read (length out)) m) ≡ some k
      → map_read_outcome mirror v a out m ≡ (k, (out, marked (marks (read (length out)) k) a.number m))
  -- that is, 6 and 7 of a read or mend set it, and every other refusal leaves the map alone
  pub lost_or_clashing_sets : (c : Call) → Judges c → (marks c 6 ≡ Sets) × (marks c 7 ≡ Sets)
  pub other_refusals : (v : Triple) (a : Args) (c : Call) (m : List ℕ) (k : ℕ) → first_of (call_order v a c m) ≡ some k
      → (Judges c → (k ≡ 6 → ⊥) × (k ≡ 7 → ⊥)) → marks c k ≡ Keeps
  -- where none holds the call finishes
  pub finishes : (v : Triple) (a : Args) (c : Call) (m : List ℕ) → first_of (call_order v a c m) ≡ none
      → is_finished (map_outcome mirror v a c m).0 ≡ true
  pub survey_refuses : (v : Triple) (vol : Volume) (m list : List ℕ) (k : ℕ) → map_survey_refusal v vol m (length list) ≡ some k
      → map_survey_outcome v vol m list ≡ (refused k, list)
  -- with a map of as many words as n needs, a call answers and leaves what it does without a map, refused or not
  pub as_without : (v : Triple) (a : Args) (c : Call) (m : List ℕ) → length m ≡ map_words a.volume.count
      → map_outcome mirror v a c m ≡ ((outcome mirror v a c).0, ((outcome mirror v a c).1, marked (marks c (outcome mirror v a c).0) a.number m))
  pub read_as_without : (v : Triple) (a : Args) (out m : List ℕ) → length m ≡ map_words a.volume.count
      → map_read_outcome mirror v a out m
      ≡ ((read_outcome mirror v a out).0, ((read_outcome mirror v a out).1, marked (marks (read (length out)) (read_outcome mirror v a out).0) a.number m))
  pub survey_as_without : (v : Triple) (vol : Volume) (m list : List ℕ) → length m ≡ map_words vol.count
      → map_survey_outcome v vol m list ≡ survey_outcome v vol list
  -- a read's answer and map are one, whether its output or the images are looked at, and it leaves the images
  pub read_same : (v : Triple) (a : Args) (out m : List ℕ)
      → map_outcome mirror v a (read (length out)) m ≡ ((map_read_outcome mirror v a out m).0, (v, (map_read_outcome mirror v a out m).1.1))
  -- every bit: the sector's own by the mark, all others as they were; and as many words of 64 bits
  pub bits : (v : Triple) (a : Args) (c : Call) (m : List ℕ) (i : ℕ)
      → bit i (map_outcome mirror v a c m).1.1 ≡ cond (eqb i a.number) (turned (marks c (map_outcome mirror v a c m).0) (bit i m)) (bit i m)
  pub length_stays : (v : Triple) (a : Args) (c : Call) (m : List ℕ) → length (map_outcome mirror v a c m).1.1 ≡ length m
  pub words_stay : (v : Triple) (a : Args) (c : Call) (m : List ℕ) → Words m → Words (map_outcome mirror v a c m).1.1
