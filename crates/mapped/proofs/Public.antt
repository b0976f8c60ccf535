-- The calls' outcomes where the checks refuse, and where they pass. Assumes nothing.
use mathlib.Core.Path.{◌≡◌, ap, ◌∙◌}
use mathlib.Core.List.{List}
use mathlib.Core.Option.{Option, none, some}
use Prim.Native.Nat.{ℕ, ◌/◌, ◌<◌}
use lib.ListN.{length}
use Rattle.mode.specs.Sealing.{Triple, key_from, triple}
use Rattle.answers.specs.declared.places.Places.{Places}
use Rattle.answers.specs.declared.volume.Volume.{Volume}
use Rattle.answers.specs.Lent.{triple_of, volume_lent, args_of}
use Rattle.answers.specs.Rules.{first_of, Args, shape, is_shape, sector_and_map_rules, survey_and_map_rules}
use Rattle.history.specs.Volume.{Call, read, mirror, outcome, read_outcome}
use Rattle.report.specs.Survey.{Report, refused, survey_outcome}
use Rattle.suspects.specs.declared.Mark.{Mark}
use Rattle.suspects.specs.Marks.{marks, marked, map_refusal, map_outcome, map_read_outcome, map_survey_outcome}
use Rattle.suspects.proofs.Marking.{in_map}
use Rattle.suspects.proofs.Calls as S

module _ (vol : Volume) (i : ℕ) (l g r m : List ℕ) where
  abbrev a : Args
  a = args_of vol i

  abbrev v : Triple
  v = triple l g r

  -- what the check gives
  abbrev checked : Option ℕ
  checked = first_of (sector_and_map_rules (key_from vol.key.now) vol.size vol.count (shape vol.size vol.count (length l) (length g) (length r)) (length m) i)

  first : {o : Option ℕ} → checked ≡ o → map_refusal v a m ≡ o
  unfolding is_shape
  first e = e

  pub bit_within : checked ≡ none → i / 64 < length m
  bit_within e = in_map v a m (first e)

  module _ (c : Call) where
    pub call_done : checked ≡ none → {z : ℕ} {x : Triple} {y : Mark} {after : List ℕ} → outcome mirror v a c ≡ (z, x) → y ≡ marks c z → after ≡ marked y i m
        → map_outcome mirror v a c m ≡ (z, (x, after))
    call_done e d f h = S.marked_done mirror v a c m (first e) d (h ∙ ap (λ (y : Mark). marked y i m) f)

    pub call_refused : {k : ℕ} → checked ≡ some k → map_outcome mirror v a c m ≡ (k, (v, m))
    call_refused e = S.marked_refused mirror v a c m (first e)

-- ---- a read

module _ (vol : Volume) (i : ℕ) (p : Places) (m out : List ℕ) where
  abbrev read_checked : Option ℕ
  read_checked = checked vol i p.local.now p.tag.now p.remote.now m

  pub read_within : read_checked ≡ none → i / 64 < length m
  read_within e = bit_within vol i p.local.now p.tag.now p.remote.now m e

  pub read_done : read_checked ≡ none → {z : ℕ} {x : List ℕ} {y : Mark} {after : List ℕ} → read_outcome mirror (triple_of p) (args_of vol i) out ≡ (z, x)
      → y ≡ marks (read (length out)) z → after ≡ marked y i m → map_read_outcome mirror (triple_of p) (args_of vol i) out m ≡ (z, (x, after))
  read_done e d f h =
      S.read_done mirror (triple_of p) (args_of vol i) out m (first vol i p.local.now p.tag.now p.remote.now m e) d (h ∙ ap (λ (y : Mark). marked y i m) f)

  pub read_refused : {k : ℕ} → read_checked ≡ some k → map_read_outcome mirror (triple_of p) (args_of vol i) out m ≡ (k, (out, m))
  read_refused e = S.read_refused mirror (triple_of p) (args_of vol i) out m (first vol i p.local.now p.tag.now p.remote.now m e)

-- ---- a survey

module _ (vol : Volume) (p : Places) (m list : List ℕ) where
  abbrev survey_checked : Option ℕ
  survey_checked =
      first_of (survey_and_map_rules (key_from vol.key.now) vol.size vol.count (shape vol.size vol.count (length p.local.now) (length p.tag.now) (length p.remote.now)) (length m) (length list))

  pub survey_done : survey_checked ≡ none → {x : Report × List ℕ} → survey_outcome (triple_of p) (volume_lent vol) list ≡ x
      → map_survey_outcome (triple_of p) (volume_lent vol) m list ≡ x
  unfolding is_shape
  survey_done e d = S.survey_done (triple_of p) (volume_lent vol) m list e d

  pub survey_refused : {k : ℕ} → survey_checked ≡ some k → map_survey_outcome (triple_of p) (volume_lent vol) m list ≡ (refused k, list)
  unfolding is_shape
  survey_refused e = S.survey_refused (triple_of p) (volume_lent vol) m list e
