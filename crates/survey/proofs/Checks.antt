-- What a survey's checks show. Assumes nothing.
use mathlib.Core.Path.{◌≡◌}
use mathlib.Core.Bool.{true}
use mathlib.Core.List.{List}
use mathlib.Core.Option.{Option, none, some}
use Prim.Native.Nat.{ℕ, ◌≤◌}
use lib.ListN.{length}
use Rattle.mode.specs.Scheme.{is_key}
use Rattle.mode.specs.Sealing.{key_from}
use Rattle.answers.specs.declared.places.Places.{Places}
use Rattle.answers.specs.declared.volume.Volume.{Volume}
use Rattle.answers.specs.Lent.{triple_of, volume_lent}
use Rattle.answers.specs.Rules.{first_of, shape, is_shape, survey_rules}
use Rattle.history.specs.Volume.{mirror}
use Rattle.answers.proofs.Passing.{survey_passed}
use Rattle.report.proofs.Refusals.{survey_passes, survey_refused}
use Rattle.images.specs.Lent.{Room}
use Rattle.images.proofs.Rooms.{has_room}
use Rattle.report.specs.Survey.{Report, refused, verdict_at, surveyed, survey_outcome}

-- of these images and this list
module _ (v : Volume) (p : Places) (list : List ℕ) where
  -- what the check gives
  abbrev checked : Option ℕ
  checked = first_of (survey_rules (key_from v.key.now) v.size v.count (shape v.size v.count (length p.local.now) (length p.tag.now) (length p.remote.now)) (length list))

  pub checked_lent : checked ≡ none → (is_key (key_from v.key.now) ≡ true) × (v.count ≤ length list)
  unfolding is_shape
  checked_lent e = let t = survey_passed (triple_of p) (volume_lent v) (length list) e in (t.0.key, t.1)

  pub checked_room : checked ≡ none → Room v.size v.count (length p.local.now) (length p.tag.now) (length p.remote.now)
  unfolding is_shape
  checked_room e = has_room (triple_of p) (volume_lent v) (survey_passed (triple_of p) (volume_lent v) (length list) e).0

  pub checked_counted : checked ≡ none → {x : Report × List ℕ} → surveyed (verdict_at (mirror (key_from v.key.now) v.number) v.size (triple_of p)) v.count list ≡ x
      → survey_outcome (triple_of p) (volume_lent v) list ≡ x
  unfolding is_shape
  checked_counted e c = survey_passes (triple_of p) (volume_lent v) list e c

  pub checked_refused : {k : ℕ} → checked ≡ some k → survey_outcome (triple_of p) (volume_lent v) list ≡ (refused k, list)
  unfolding is_shape
  checked_refused e = survey_refused (triple_of p) (volume_lent v) list e
