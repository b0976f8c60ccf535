-- What the inner functions give. Assumes nothing: these are definitions.
use Rattle.std.specs.Prelude.{◌≡◌, true, false, List, ◌++◌, ℕ, ◌+◌, ◌*◌, ◌≤◌, length}
use Rattle.bits.specs.Bits.{bit, mark}
use Rattle.mode.specs.Sealing.{tweak}
use Rattle.mode.specs.Scheme.{Scheme}
use Rattle.answers.specs.Lent.{triple_of}
use Rattle.verdict.specs.Verdict.{Verdict, whole, doubtful, lost, clashing, judge}
use Rattle.history.specs.Answers.{is_whole, is_doubtful, is_clashing, is_lost}
use Rattle.history.specs.Volume.{sector_of}
use Rattle.report.specs.declared.Counts.{Counts}
use Rattle.survey.specs.declared.lent.Images.{Images}
use Rattle.survey.specs.declared.maps.Kind.{Kind}
use Rattle.survey.specs.declared.maps.Kind.TheVariants.{Whole, Doubtful, Clashing, Lost}
use Rattle.survey.specs.declared.maps.Maps.{Maps}
use Rattle.report.specs.Survey.{chosen, numbers, tally, health, counts_of}

-- the verdicts by the mode, with the tweak of the volume and of each sector's number
abbrev pub verdict_by : Scheme → ℕ → Images → ℕ → Verdict
verdict_by S volume images i = judge S (tweak volume i) (sector_of images.size i (triple_of images.places))

-- the kind that the survey keeps of a verdict
abbrev pub kind_of : Verdict → Kind
kind_of (whole P) = Whole
kind_of (doubtful d P) = Doubtful
kind_of lost = Lost
kind_of clashing = Clashing

-- one more sector of a kind
abbrev pub counting : Kind → Counts → Counts
counting Whole c = record c { whole = c.whole + 1 }
counting Doubtful c = record c { doubtful = c.doubtful + 1 }
counting Clashing c = record c { clashing = c.clashing + 1 }
counting Lost c = record c { lost = c.lost + 1 }

-- ---- what was found, as bits: bit i for sector i, a map for each kind

abbrev pub maps : List ℕ → List ℕ → List ℕ → Maps
maps l c d = record { lost = l; clashing = c; doubtful = d }

-- sector i in the map of its kind, or in none if it is whole; all else is as it was
abbrev pub marking : Kind → ℕ → Maps → Maps
marking Whole i m = m
marking Doubtful i m = record m { doubtful = mark i true m.doubtful }
marking Clashing i m = record m { clashing = mark i true m.clashing }
marking Lost i m = record m { lost = mark i true m.lost }

-- the maps have room for n numbers,
pub record Sized (n : ℕ) (m : Maps) : Type 0 where
  pub lost : n ≤ 64 * length m.lost
  pub clashing : n ≤ 64 * length m.clashing
  pub doubtful : n ≤ 64 * length m.doubtful

-- and none in them
pub record Empty (n : ℕ) (m : Maps) : Type 0 where
  pub sized : Sized n m
  pub lost : (i : ℕ) → bit i m.lost ≡ false
  pub clashing : (i : ℕ) → bit i m.clashing ≡ false
  pub doubtful : (i : ℕ) → bit i m.doubtful ≡ false

-- the numbers below n in a map, rising
abbrev pub set_below : ℕ → List ℕ → List ℕ
set_below n m = chosen (λ i. bit i m) n

-- those of the three maps, one map behind the other, in repair order
abbrev pub in_order : ℕ → Maps → List ℕ
in_order n m = set_below n m.lost ++ set_below n m.clashing ++ set_below n m.doubtful

-- the counts and the maps of n sectors with these verdicts
pub record AllJudged (w : ℕ → Verdict) (n : ℕ) (c : Counts) (m : Maps) : Type 0 where
  pub counts : c ≡ counts_of w n (health (tally is_whole w n) n)
  pub sized : Sized n m
  pub lost : set_below n m.lost ≡ numbers is_lost w n
  pub clashing : set_below n m.clashing ≡ numbers is_clashing w n
  pub doubtful : set_below n m.doubtful ≡ numbers is_doubtful w n
