-- What a write answers and leaves, by which plaintexts fit which places of its sector (document 01, "The verdict", with change request
-- S-6). One statement for every key, volume's number, s, n, sector's number, plaintext, map, and images of any bytes; proved as
-- `writes_mean`. `write_outcome` is the definition that the call's contract cites.
use Rattle.std.specs.Prelude.{◌≡◌, true, false, List, [], ◌∷◌, ◌++◌, ℕ, length}
use Rattle.std.proofs.Math.Option.{none, some}
use Rattle.bits.specs.Bits.{Words, mark}
use Rattle.block.specs.Bytes.{Bytes}
use Rattle.mode.specs.Sealing.{Triple}
use Rattle.mode.specs.Scheme.{Place}
use Rattle.verdict.specs.Verdict.{Verdict, whole, doubtful, lost, clashing}
use Rattle.answers.specs.Answers.{doubt_number}
use Rattle.answers.specs.Rules.{Rule, first_of, Args, length_rules}
use Rattle.history.specs.HistoryFrom.{AnyBytes}
use Rattle.history.specs.Meaning.{Is, sealed_all}
use Rattle.history.specs.Volume.{Call, mend, read, mirror}
use Rattle.suspects.specs.Marks.{marks, marked, first_rules, map_outcome, map_read_outcome}
use Rattle.writes.specs.Write.{stages, write_outcome}

-- the numbers that calls on one sector answer, each of which gets the images and the map as the one before left them
abbrev pub calls_answer : Args → List Call → Triple × List ℕ → List ℕ
calls_answer a [] d = []
calls_answer a (c ∷ cs) d = let r = map_outcome mirror d.0 a c d.1 in r.0 ∷ calls_answer a cs r.1

module _ (v : Triple) (a : Args) (P m : List ℕ) where
  -- the refusals before 6 and 7, in order: 1, 14, 2, 8, 13, 9, and 3 for the plaintext's length
  abbrev pub write_rules : List Rule
  write_rules = first_rules v a m ++ length_rules (length P) a.volume.size

  -- none of them turns the write away
  abbrev pub WritePasses : Type 0
  WritePasses = first_of write_rules ≡ none

  -- the three places of the sector as P seals, and its bit clear; nothing else is written
  abbrev pub written : Triple × List ℕ
  written = (sealed_all v a P, mark a.number false m)

  pub record WriteMeans : Type 0 where
    -- such a refusal: its number, and every lent byte and word as it was
    pub refuses : (k : ℕ) → first_of write_rules ≡ some k → write_outcome mirror v a P m ≡ (k, (v, m))
    -- the number is that of a read with an output of the plaintext's length, whatever the output holds
    pub as_read : (out : List ℕ) → length out ≡ length P → (write_outcome mirror v a P m).0 ≡ (map_read_outcome mirror v a out m).0
    -- the sector has exactly one verdict
    pub one_verdict : WritePasses → (w : Verdict) × Is v a w × ((u : Verdict) → Is v a u → u ≡ w)
    -- lost or clashing: 6 or 7, the images as they were, and the sector's bit set, as the read leaves it
    pub at_lost : WritePasses → Is v a lost → write_outcome mirror v a P m ≡ (6, (v, mark a.number true m))
    pub at_clashing : WritePasses → Is v a clashing → write_outcome mirror v a P m ≡ (7, (v, mark a.number true m))
    -- else it writes, and answers the verdict that it found
    pub at_whole : WritePasses → (Q : List ℕ) → Is v a (whole Q) → write_outcome mirror v a P m ≡ (0, written)
    pub at_doubtful : WritePasses → (d : Place) (Q : List ℕ) → Is v a (doubtful d Q) → write_outcome mirror v a P m ≡ (doubt_number d, written)
    -- the map, by the number of the answer alone, is as after a mend with this answer: a finished write clears the sector's bit, 6 and 7 set
    -- it, and every other refusal leaves it
    pub map_by_answer : let r = write_outcome mirror v a P m in r.1.1 ≡ marked (marks mend r.0) a.number m
    -- and none of its calls is refused
    pub whole_runs : WritePasses → (Q : List ℕ) → Is v a (whole Q)
        → calls_answer a (read (length P) ∷ stages P) (v, m) ≡ 0 ∷ 0 ∷ 0 ∷ 0 ∷ []
    pub doubtful_runs : WritePasses → (d : Place) (Q : List ℕ) → Is v a (doubtful d Q)
        → calls_answer a (read (length P) ∷ mend ∷ stages P) (v, m) ≡ doubt_number d ∷ doubt_number d ∷ 0 ∷ 0 ∷ 0 ∷ []

abbrev pub WritesMean : Type 0
WritesMean = (v : Triple) → AnyBytes v → (a : Args) (P : List ℕ) → Bytes P → (m : List ℕ) → Words m → WriteMeans v a P m
