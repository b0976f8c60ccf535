-- The calls on one sector of a volume (document 01, "A volume"): what they refuse, answer and leave. Assumes nothing: these are
-- definitions, over any scheme; `mirror` is the one that is used.
use Rattle.std.specs.Prelude.{not, ◌&&◌, List, [], ◌∷◌, ◌++◌, ℕ, length, replicate}
use Rattle.std.proofs.Math.Option.{Option, none, some}
use Rattle.block.specs.Bytes.{part, patch}
use Rattle.mode.specs.Sealing.{Triple, Key, sealed}
use Rattle.mode.specs.Scheme.{Place, local, tag, remote, on, wide, Scheme, scheme}
use Rattle.verdict.specs.Verdict.{Verdict, fits, judge}
use Rattle.verdict.specs.Judging.{verdict_refusal, verdict_doubt, verdict_plain}
use Rattle.answers.specs.Rules.{Rule, rule, first_of, rules_of, Args, length_rules, sector_rules, is_shape}
use Rattle.history.specs.Answers.{Answer, done, gives, found, reply, is_whole, answer_number, output}

-- what seals the sectors of volumes: a scheme for each key and number
abbrev pub Schemes : Type 0
Schemes = Key → ℕ → Scheme

-- ---- three images

-- the three places of sector i, its parts of the three images
abbrev pub sector_of : ℕ → ℕ → Triple → Triple
sector_of s i v = record { local = part s i v.local; tag = part 16 i v.tag; remote = part s i v.remote }

-- a triple with b for one of the three
abbrev pub store : Place → List ℕ → Triple → Triple
store local b t = record { local = b; tag = t.tag; remote = t.remote }
store tag b t = record { local = t.local; tag = b; remote = t.remote }
store remote b t = record { local = t.local; tag = t.tag; remote = b }

-- b written to one place of sector i
abbrev pub write : ℕ → ℕ → Place → List ℕ → Triple → Triple
write s i p b v = store p (patch (wide s p) i b (on v p)) v

-- bytes for each place, written to some of the places of sector i
abbrev pub write_all : ℕ → ℕ → (Place → List ℕ) → List Place → Triple → Triple
write_all s i b [] v = v
write_all s i b (p ∷ ps) v = write_all s i b ps (write s i p (b p) v)

-- ---- calls

-- the calls on one sector, with what else they take: a stage its plaintext, a read the length of its output
pub data Call : Type 0 where
  blank : Call
  first second third : List ℕ → Call
  mend : Call
  read : ℕ → Call

-- ---- refusals

abbrev pub lengths : Args → Call → List Rule
lengths a blank = []
lengths a (first P) = length_rules (length P) a.volume.size
lengths a (second P) = length_rules (length P) a.volume.size
lengths a (third P) = length_rules (length P) a.volume.size
lengths a mend = []
lengths a (read o) = length_rules o a.volume.size

-- all that comes before 6 (read, mend) or 10 (a stage)
unfoldable pub early : Triple → Args → Call → List Rule
early v a c = sector_rules a.volume.key a.volume.size a.volume.count (is_shape a.volume.size a.volume.count v) a.number ++ lengths a c

-- the refusal of judging, if it refuses
abbrev pub judge_rules : Verdict → List Rule
judge_rules w = rules_of (verdict_refusal w)

-- the last refusals, of the three places t of sector i
abbrev pub late : Scheme → ℕ → Triple → Call → List Rule
late S i t blank = []
-- 10: the sector is not whole
late S i t (first P) = rule 10 (not (is_whole (judge S i t))) ∷ []
-- 10: P does not fit the local place
late S i t (second P) = rule 10 (not (fits S i t local P)) ∷ []
-- 10: P does not fit local and tag
late S i t (third P) = rule 10 (not (fits S i t local P && fits S i t tag P)) ∷ []
-- 6 and 7
late S i t mend = judge_rules (judge S i t)
late S i t (read o) = judge_rules (judge S i t)

-- ---- writes

-- places, and the plaintext as whose sealing they are written
pub record Writes : Type 0 where
  pub plain : List ℕ
  pub places : List Place

abbrev pub doubtful_places : Option Place → List Place
doubtful_places none = []
doubtful_places (some p) = p ∷ []

-- a mend writes the doubtful place as the one plaintext seals
abbrev pub mends : Verdict → Writes
mends w = record { plain = verdict_plain w; places = doubtful_places (verdict_doubt w) }

abbrev pub writes : ℕ → Scheme → ℕ → Triple → Call → Writes
-- zeros into all three places
writes s S i t blank = record { plain = replicate s 0; places = local ∷ tag ∷ remote ∷ [] }
-- P's local sector,
writes s S i t (first P) = record { plain = P; places = local ∷ [] }
-- then P's tag,
writes s S i t (second P) = record { plain = P; places = tag ∷ [] }
-- then P's remote sector
writes s S i t (third P) = record { plain = P; places = remote ∷ [] }
writes s S i t mend = mends (judge S i t)
writes s S i t (read o) = record { plain = []; places = [] }

-- ---- answers

-- what a call answers that is not refused
abbrev pub result : Scheme → ℕ → Triple → Call → Answer
result S i t blank = done
result S i t (first P) = done
result S i t (second P) = done
result S i t (third P) = done
-- a mend answers the verdict that it found, a read gives the plaintext too
result S i t mend = found (verdict_doubt (judge S i t))
result S i t (read o) = gives (verdict_doubt (judge S i t)) (verdict_plain (judge S i t))

-- the images as they were if a call is refused, else as its writes leave them
abbrev pub unless : Option ℕ → Triple → Triple → Triple
unless none before after = after
unless (some k) before after = before

-- the call's sector
abbrev pub sector : Triple → Args → Triple
sector v a = sector_of a.volume.size a.number v

module _ (seals : Schemes) where
  -- the sealing that a call uses
  abbrev pub sealing : Args → Scheme
  sealing a = seals a.volume.key a.volume.number

  -- the sector's number is its address
  unfoldable pub refusal : Triple → Args → Call → Option ℕ
  refusal v a c = first_of (early v a c ++ late (sealing a) a.number (sector v a) c)

  unfoldable pub answer : Triple → Args → Call → Answer
  answer v a c = reply (refusal v a c) (result (sealing a) a.number (sector v a) c)

  -- the images once a call that is not refused has written; `land` says what lands in a place, of the bytes that the call writes and those
  -- that it found
  abbrev pub landed : (Triple → Triple → Place → List ℕ) → Triple → Args → Call → Triple
  landed land v a c =
      let w = writes a.volume.size (sealing a) a.number (sector v a) c in
      write_all a.volume.size a.number (land ((sealing a).sealed a.number w.plain) (sector v a)) w.places v

  -- the images that a call leaves, finished or refused
  unfoldable pub after : Triple → Args → Call → Triple
  after v a c = unless (refusal v a c) v (landed (λ written found. on written) v a c)

  -- ---- what a caller gets: the number of the answer, and the images or the output afterwards

  unfoldable pub outcome : Triple → Args → Call → ℕ × Triple
  outcome v a c = (answer_number (answer v a c), after v a c)

  unfoldable pub read_outcome : Triple → Args → List ℕ → ℕ × List ℕ
  read_outcome v a out = let r = answer v a (read (length out)) in (answer_number r, output r out)

-- the mode, with the volume's number, and a sector's number for its address
unfoldable pub mirror : Schemes
mirror k volume = record { sealed = sealed k volume; open_local = (scheme k).open_local; open_remote = (scheme k).open_remote }
