-- Calls on a volume are those on a sector, under the volume's key and number and at the sector's number (document 01, "A volume"): a read is
-- the judging of the sector's places, a blank writes what sealing zeros gives, and a write in one call (change request S-6) answers as
-- judging does and writes what sealing its plaintext gives. On the definitions that the contracts cite, of calls that pass the checks, with
-- a map of as many words as n needs; proved as `as_sectors`.
use Rattle.std.specs.Prelude.{◌≡◌, true, false, List, [], ◌∷◌, ℕ, length, replicate}
use Rattle.std.proofs.Math.Option.{none}
use Rattle.bits.specs.Bits.{Words, mark}
use Rattle.block.specs.Bytes.{Bytes}
use Rattle.mode.specs.Sealing.{Triple, Key}
use Rattle.mode.specs.Scheme.{local, tag, remote, on}
use Rattle.answers.specs.Rules.{first_of, args, map_words}
use Rattle.sector.specs.Calls.{seal_call, judge_call}
use Rattle.history.specs.Volume.{sector_of, write_all, blank, read, early, mirror}
use Rattle.history.specs.HistoryFrom.{AnyBytes}
use Rattle.suspects.specs.Marks.{is_finished, map_outcome, map_read_outcome}
use Rattle.writes.specs.Write.{write_outcome}
use Rattle.writes.specs.Meaning.{WritePasses}

pub record AsSectors : Type 0 where
  pub reads : (v : Triple) (k : Key) (volume s n i : ℕ) (out m : List ℕ) → first_of (early v (args k volume s n i) (read (length out))) ≡ none → length m ≡ map_words n
      → let r = map_read_outcome mirror v (args k volume s n i) out m in (r.0, r.1.0) ≡ judge_call k volume i (sector_of s i v) out
  pub blanks : (v : Triple) (k : Key) (volume s n i : ℕ) (m : List ℕ) → first_of (early v (args k volume s n i) blank) ≡ none → length m ≡ map_words n
      → map_outcome mirror v (args k volume s n i) blank m
      ≡ (0, (write_all s i (on (seal_call k volume i (replicate s 0) (sector_of s i v)).1) (local ∷ tag ∷ remote ∷ []) v, mark i false m))
  pub write_answers : (v : Triple) → AnyBytes v → (k : Key) (volume s n i : ℕ) (P : List ℕ) → Bytes P → (m : List ℕ) → Words m
      → WritePasses v (args k volume s n i) P m → (write_outcome mirror v (args k volume s n i) P m).0 ≡ (judge_call k volume i (sector_of s i v) P).0
  pub writes : (v : Triple) → AnyBytes v → (k : Key) (volume s n i : ℕ) (P : List ℕ) → Bytes P → (m : List ℕ) → Words m
      → WritePasses v (args k volume s n i) P m → is_finished (judge_call k volume i (sector_of s i v) P).0 ≡ true
      → write_outcome mirror v (args k volume s n i) P m
      ≡ ((judge_call k volume i (sector_of s i v) P).0, (write_all s i (on (seal_call k volume i P (sector_of s i v)).1) (local ∷ tag ∷ remote ∷ []) v, mark i false m))
