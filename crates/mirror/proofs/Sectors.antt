-- A volume's read, blank and write are the judging and the sealing of a sector. Assumes nothing but the laws of the sealing.
use mathlib.Core.Path.{◌≡◌, refl, sym, ap, ap₂, ◌∙◌}
use mathlib.Core.Bool.{true, false}
use mathlib.Core.List.{List, [], ◌∷◌, ◌++◌}
use mathlib.Core.Option.{none}
use Prim.Native.Nat.{ℕ}
use lib.ListN.{length, replicate, length-replicate}
use Rattle.block.specs.Bytes.{Bytes}
use Rattle.block.proofs.Lists.{clash}
use Rattle.block.proofs.Parts.{length_part}
use Rattle.bits.specs.Bits.{Words, mark}
use Rattle.mode.specs.Sealing.{Triple, Key, sealed}
use Rattle.mode.specs.Scheme.{Place, local, tag, remote, on, wide, is_size, dcm, scheme}
use Rattle.answers.specs.Rules.{first_of, Args, args, length_rules, map_words}
use Rattle.answers.proofs.Rules.{first_none, none_right}
use Rattle.answers.proofs.Passing.{length_due, parts_pass}
use Rattle.answers.proofs.Shapes.{shape_facts}
use Rattle.verdict.specs.Verdict.{Verdict, whole, doubtful, lost, clashing, fits, fits_two, candidate, grade, judge}
use Rattle.sector.specs.Calls.{seal_call, judge_call}
use Rattle.sector.proofs.Public.{judge_passes, seal_passes}
use Rattle.history.specs.Volume.{sector_of, write_all, Call, blank, read, lengths, early, mirror, outcome, read_outcome}
use Rattle.history.specs.HistoryFrom.{AnyBytes}
use Rattle.history.specs.Meaning.{Is}
use Rattle.history.proofs.Outcomes.{outcome_late, read_late}
use Rattle.history.proofs.Refusals.{Passed, passed}
use Rattle.suspects.specs.Marks.{is_finished, marks, marked, map_refusal, first_rules, map_outcome, map_read_outcome}
use Rattle.suspects.proofs.Marking.{volume_only, nine, right_words, map_passed}
use Rattle.suspects.proofs.Calls.{map_calls}
use Rattle.writes.specs.Write.{write_outcome}
use Rattle.writes.specs.Meaning.{WritePasses, written, WriteMeans}
use Rattle.writes.proofs.Meaning.{first_passed, writes_mean}
use Rattle.mirror.specs.Sectors.{AsSectors}

module _ (v : Triple) (k : Key) (volume s n i : ℕ) where
  abbrev a : Args
  a = args k volume s n i

  abbrev t : Triple
  t = sector_of s i v

  -- the sector's places have their sizes
  sizes : {c : Call} → Passed v a c → (p : Place) → length (on t p) ≡ wide s p
  sizes q local = length_part s n i q.number v.local ((shape_facts s n v q.common.shape).1 local)
  sizes q tag = length_part 16 n i q.number v.tag ((shape_facts s n v q.common.shape).1 tag)
  sizes q remote = length_part s n i q.number v.remote ((shape_facts s n v q.common.shape).1 remote)

  reads : (out : List ℕ) → first_of (early v a (read (length out))) ≡ none → read_outcome mirror v a out ≡ judge_call k volume i t out
  unfolding judge grade fits_two fits candidate mirror sealed scheme dcm
  reads out e =
      let q = passed v a (read (length out)) e in
      let l : length t.local ≡ s = sizes q local in
      read_late mirror v a out e
      ∙ sym
      (judge_passes k volume i t out
      (parts_pass k (length t.local) (length t.remote) (length out) (length t.tag) q.common.key q.common.hash (ap is_size l ∙ q.common.size)
      (sizes q remote ∙ sym l) (length_due (length out) s q.lengths ∙ sym l) (sizes q tag)))

  abbrev zeros : List ℕ
  zeros = replicate s 0

  -- the images with the sector as written
  abbrev with_sector : Triple → Triple
  with_sector w = write_all s i (on w) (local ∷ tag ∷ remote ∷ []) v

  -- what sealing a plaintext of s bytes gives
  seals : {c : Call} → Passed v a c → (P : List ℕ) → length P ≡ s → seal_call k volume i P t ≡ (0, sealed k volume i P)
  seals q P l =
      seal_passes k volume i P t
      (parts_pass k (length P) (length t.local) (length t.remote) (length t.tag) q.common.key q.common.hash (ap is_size l ∙ q.common.size)
      (sizes q local ∙ sym l) (sizes q remote ∙ sym l) (sizes q tag))

  blanks : first_of (early v a blank) ≡ none → outcome mirror v a blank ≡ (0, with_sector (seal_call k volume i zeros t).1)
  unfolding mirror
  blanks e =
      outcome_late mirror v a blank e
      ∙ ap (λ (r : ℕ × Triple). (0, with_sector r.1)) (sym (seals (passed v a blank e) zeros (length-replicate s 0)))

  -- ---- with a map of as many words as n needs

  module _ (m : List ℕ) (right : length m ≡ map_words n) where
    map_reads : (out : List ℕ) → first_of (early v a (read (length out))) ≡ none → let r = map_read_outcome mirror v a out m in (r.0, r.1.0) ≡ judge_call k volume i t out
    map_reads out e = ap (λ (r : ℕ × (List ℕ × List ℕ)). (r.0, r.1.0)) (map_calls.read_as_without v a out m right) ∙ reads out e

    map_blanks : first_of (early v a blank) ≡ none → map_outcome mirror v a blank m ≡ (0, (with_sector (seal_call k volume i zeros t).1, mark i false m))
    unfolding is_finished
    map_blanks e =
        map_calls.as_without v a blank m right
        ∙ ap (λ (r : ℕ × Triple). (r.0, (r.1, marked (marks blank r.0) i m))) (blanks e)

  -- ---- a write in one call

  module _ (b : AnyBytes v) (P : List ℕ) (bytes : Bytes P) (m : List ℕ) (w : Words m) (e : WritePasses v a P m) where
    passed_first : map_refusal v a m ≡ none
    passed_first = first_passed v b a P bytes m e

    read_passed : first_of (early v a (read (length P))) ≡ none
    unfolding early
    read_passed =
        first_none (lengths a (read (length P))) (volume_only v a.volume ++ nine a)
        (sym (right_words v a.volume m (nine a) (map_passed v a m passed_first).0) ∙ passed_first)
        ∙ none_right (length_rules (length P) s) (first_rules v a m) e

    means : WriteMeans v a P m
    means = writes_mean v b a P bytes m w

    same_number : (write_outcome mirror v a P m).0 ≡ (judge_call k volume i t P).0
    same_number = means.as_read P refl ∙ ap (λ (r : ℕ × List ℕ). r.0) (map_reads m (map_passed v a m passed_first).0 P read_passed)

    -- by the verdict that it found
    writes_by : (u : Verdict) → Is v a u → is_finished (write_outcome mirror v a P m).0 ≡ true → (write_outcome mirror v a P m).1 ≡ written v a P m
    unfolding is_finished
    writes_by (whole Q) is f = ap (λ (r : ℕ × (Triple × List ℕ)). r.1) (means.at_whole e Q is)
    writes_by (doubtful d Q) is f = ap (λ (r : ℕ × (Triple × List ℕ)). r.1) (means.at_doubtful e d Q is)
    writes_by lost is f = clash f (ap (λ (r : ℕ × (Triple × List ℕ)). is_finished r.0) (means.at_lost e is))
    writes_by clashing is f = clash f (ap (λ (r : ℕ × (Triple × List ℕ)). is_finished r.0) (means.at_clashing e is))

    writes : is_finished (judge_call k volume i t P).0 ≡ true
        → write_outcome mirror v a P m ≡ ((judge_call k volume i t P).0, (with_sector (seal_call k volume i P t).1, mark i false m))
    unfolding mirror
    writes f =
        let q = passed v a (read (length P)) read_passed in
        let u = means.one_verdict e in
        ap₂ (λ (x : ℕ) (y : Triple × List ℕ). (x, y)) same_number
        (writes_by u.0 u.1 (ap is_finished same_number ∙ f)
        ∙ ap (λ (r : ℕ × Triple). (with_sector r.1, mark i false m)) (sym (seals q P (length_due (length P) s q.lengths))))

pub as_sectors : AsSectors
as_sectors = record {
  reads = λ v k volume s n i out m e right. map_reads v k volume s n i m right out e;
  blanks = λ v k volume s n i m e right. map_blanks v k volume s n i m right e;
  write_answers = λ v b k volume s n i P bytes m w e. same_number v k volume s n i b P bytes m w e;
  writes = λ v b k volume s n i P bytes m w e f. writes v k volume s n i b P bytes m w e f;
}
