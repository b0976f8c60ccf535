-- The calls on a volume with a map of suspects (change request S-4): what they refuse, answer and leave in the images, the output and the
-- map. Assumes nothing: these are definitions, over those of the calls without a map.
use Rattle.std.specs.Prelude.{Bool, true, false, ◌||◌, cond, List, ℕ, eqb, length}
use Rattle.std.proofs.Math.Option.{Option}
use Rattle.bits.specs.Bits.{mark}
use Rattle.mode.specs.Sealing.{Triple}
use Rattle.mode.specs.Scheme.{local, tag, remote}
use Rattle.answers.specs.Answers.{doubt_number}
use Rattle.answers.specs.Rules.{Rule, first_of, settle, settle_by, Volume, Args, is_shape, sector_and_map_rules, survey_and_map_rules}
use Rattle.history.specs.Volume.{Call, blank, first, second, third, mend, read, Schemes, outcome, read_outcome}
use Rattle.report.specs.Survey.{Report, refused, survey_outcome}
use Rattle.suspects.specs.declared.Mark.{Mark}
use Rattle.suspects.specs.declared.Mark.TheVariants.{Clears, Sets, Keeps}

-- ---- what a call does to the bit of its sector, by the number of its answer

-- the call finished: done or whole, or doubtful at a place
unfoldable pub is_finished : ℕ → Bool
is_finished k = eqb k 0 || (eqb k (doubt_number local) || (eqb k (doubt_number tag) || eqb k (doubt_number remote)))

-- a call that finishes, in the request's order
abbrev pub finishing : Call → ℕ → Mark
-- blank, the third stage and a mend clear it
finishing blank k = Clears
finishing (third P) k = Clears
finishing mend k = Clears
-- the first and second stage set it
finishing (first P) k = Sets
finishing (second P) k = Sets
-- a read sets it unless the verdict is whole, when it clears it
finishing (read o) k = cond (eqb k 0) Clears Sets

-- lost or clashing
unfoldable pub lost_or_clashing : ℕ → Mark
lost_or_clashing k = cond (eqb k 6 || eqb k 7) Sets Keeps

-- a call that is refused
abbrev pub refusing : Call → ℕ → Mark
-- a read or mend that ends lost or clashing sets it
refusing (read o) k = lost_or_clashing k
refusing mend k = lost_or_clashing k
-- other refusals leave the map alone
refusing blank k = Keeps
refusing (first P) k = Keeps
refusing (second P) k = Keeps
refusing (third P) k = Keeps

abbrev pub marks : Call → ℕ → Mark
marks c k = cond (is_finished k) (finishing c k) (refusing c k)

-- the map with the bit of sector i so
abbrev pub marked : Mark → ℕ → List ℕ → List ℕ
marked Clears i m = mark i false m
marked Sets i m = mark i true m
marked Keeps i m = m

-- ---- the calls

-- 1, 14, 2, 8, 13 and 9, which come before all else: so a bit that is marked is known to be within the map
abbrev pub first_rules : Triple → Args → List ℕ → List Rule
first_rules v a m =
    sector_and_map_rules a.volume.key a.volume.size a.volume.count (is_shape a.volume.size a.volume.count v) (length m) a.number

-- where none of these turns a call away, it goes on as the call without a map
abbrev pub map_refusal : Triple → Args → List ℕ → Option ℕ
map_refusal v a m = first_of (first_rules v a m)

module _ (seals : Schemes) where
  -- the number of the answer, the images and the map afterwards
  unfoldable pub map_outcome : Triple → Args → Call → List ℕ → ℕ × (Triple × List ℕ)
  map_outcome v a c m =
      let r = outcome seals v a c in
      settle (map_refusal v a m) (r.0, (r.1, marked (marks c r.0) a.number m)) (v, m)

  -- of a read: the number of the answer, the output and the map afterwards
  unfoldable pub map_read_outcome : Triple → Args → List ℕ → List ℕ → ℕ × (List ℕ × List ℕ)
  map_read_outcome v a out m =
      let r = read_outcome seals v a out in
      settle (map_refusal v a m) (r.0, (r.1, marked (marks (read (length out)) r.0) a.number m)) (out, m)

-- a survey looks at the map's length, after 8 and before 11, and leaves the map alone
abbrev pub map_survey_refusal : Triple → Volume → List ℕ → ℕ → Option ℕ
map_survey_refusal v vol m room =
    first_of (survey_and_map_rules vol.key vol.size vol.count (is_shape vol.size vol.count v) (length m) room)

unfoldable pub map_survey_outcome : Triple → Volume → List ℕ → List ℕ → Report × List ℕ
map_survey_outcome v vol m list = settle_by refused (map_survey_refusal v vol m (length list)) (survey_outcome v vol list) list
