-- What a call leaves of its sector's bit, by which plaintexts fit which places of the sector (document 01, "The verdict", with change request
-- S-4), and not by the number of its answer. One statement for every key, volume's number, s, n, sector's number, map of as many words as n
-- needs and images of any bytes, of calls that no refusal before 6 or 10 turns away; proved as `marks_mean`. `map_outcome` and
-- `map_read_outcome` are the definitions that the calls' contracts cite.
use Rattle.std.specs.Prelude.{◌≡◌, Bool, true, false, List, ℕ, length}
use Rattle.bits.specs.Bits.{bit}
use Rattle.mode.specs.Sealing.{Triple}
use Rattle.mode.specs.Scheme.{Place, local, tag}
use Rattle.verdict.specs.Verdict.{whole, doubtful, lost, clashing}
use Rattle.answers.specs.Rules.{Args, map_words}
use Rattle.history.specs.HistoryFrom.{AnyBytes}
use Rattle.history.specs.Meaning.{Passes, Is, FitsAt}
use Rattle.history.specs.Volume.{Call, blank, first, second, third, mend, read, mirror}
use Rattle.suspects.specs.Marks.{map_outcome, map_read_outcome}

module _ (v : Triple) (a : Args) (m : List ℕ) where
  -- the sector's bit after a call, and after a read
  abbrev pub bit_after : Call → Bool
  bit_after c = bit a.number (map_outcome mirror v a c m).1.1

  abbrev pub bit_read : List ℕ → Bool
  bit_read out = bit a.number (map_read_outcome mirror v a out m).1.1

  pub record MarksMean : Type 0 where
    -- a read sets it unless the sector is whole, when it clears it
    pub read_whole : (out : List ℕ) → Passes v a (read (length out)) → (P : List ℕ) → Is v a (whole P) → bit_read out ≡ false
    pub read_doubtful : (out : List ℕ) → Passes v a (read (length out)) → (d : Place) (P : List ℕ) → Is v a (doubtful d P) → bit_read out ≡ true
    pub read_lost : (out : List ℕ) → Passes v a (read (length out)) → Is v a lost → bit_read out ≡ true
    pub read_clashing : (out : List ℕ) → Passes v a (read (length out)) → Is v a clashing → bit_read out ≡ true
    -- a mend clears it, and sets it if the sector is lost or clashing
    pub mend_whole : Passes v a mend → (P : List ℕ) → Is v a (whole P) → bit_after mend ≡ false
    pub mend_doubtful : Passes v a mend → (d : Place) (P : List ℕ) → Is v a (doubtful d P) → bit_after mend ≡ false
    pub mend_lost : Passes v a mend → Is v a lost → bit_after mend ≡ true
    pub mend_clashing : Passes v a mend → Is v a clashing → bit_after mend ≡ true
    -- blank clears it; a stage that is due sets it (the first and the second) or clears it (the third)
    pub blank_clears : Passes v a blank → bit_after blank ≡ false
    pub first_sets : (P : List ℕ) → Passes v a (first P) → (Q : List ℕ) → Is v a (whole Q) → bit_after (first P) ≡ true
    pub second_sets : (P : List ℕ) → Passes v a (second P) → FitsAt v a local P → bit_after (second P) ≡ true
    pub third_clears : (P : List ℕ) → Passes v a (third P) → FitsAt v a local P × FitsAt v a tag P → bit_after (third P) ≡ false
    -- one that is not due leaves it
    pub first_keeps : (P : List ℕ) → Passes v a (first P) → ((Q : List ℕ) → Is v a (whole Q) → ⊥) → bit_after (first P) ≡ bit a.number m
    pub second_keeps : (P : List ℕ) → Passes v a (second P) → (FitsAt v a local P → ⊥) → bit_after (second P) ≡ bit a.number m
    pub third_keeps : (P : List ℕ) → Passes v a (third P) → (FitsAt v a local P × FitsAt v a tag P → ⊥) → bit_after (third P) ≡ bit a.number m

abbrev pub AllMarksMean : Type 0
AllMarksMean = (v : Triple) → AnyBytes v → (a : Args) (m : List ℕ) → length m ≡ map_words a.volume.count → MarksMean v a m
