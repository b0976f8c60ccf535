-- The calls with a map: what they answer, and what they leave of images, output and map. Assumes nothing.
use mathlib.Core.Path.{◌≡◌, refl, sym, ◌∙◌, ap, subst}
use mathlib.Core.Bool.{true, cond}
use mathlib.Core.List.{List, ◌++◌}
use mathlib.Core.Option.{Option, none, some}
use Prim.Native.Nat.{ℕ}
use lib.Dec.{eqb}
use lib.ListN.{length}
use Rattle.bits.specs.Bits.{Words, bit}
use Rattle.mode.specs.Sealing.{Triple}
use Rattle.answers.specs.Rules.{Rule, first_of, settle, settle_by, Args, Volume, map_words, list_rules}
use Rattle.history.specs.Answers.{Answer, reply, answer_number, output}
use Rattle.history.specs.Volume.{Call, Schemes, read, lengths, early, late, result, sector, sealing, refusal, answer, outcome, read_outcome, mirror}
use Rattle.report.specs.Survey.{Report, refused, survey_refusal, survey_outcome}
use Rattle.answers.proofs.Rules.{first_none, first_some_lem, none_left, settle_none, settle_some}
use Rattle.history.proofs.Refusals.{answer_refused}
use Rattle.history.proofs.Outcomes.{outcome_refused, outcome_early, read_early, outcome-read}
use Rattle.report.proofs.Refusals as R
use Rattle.suspects.specs.declared.Mark.{Mark}
use Rattle.suspects.specs.declared.Mark.TheVariants.{Keeps}
use Rattle.suspects.specs.Marks.{is_finished, marks, marked, first_rules, map_refusal, map_outcome, map_read_outcome, map_survey_refusal, map_survey_outcome}
use Rattle.suspects.specs.Calls.{turned, call_order, MapCalls}
use Rattle.suspects.proofs.Marking.{Room, length_marked, words_marked, bit-marked, volume_only, nine, right_words, words_right, map_passed, room, before_keeps, lost_or_clashing_sets, refused_ends, others_keep, result_finished}

-- ---- over what a call leaves beside the map: the images, or an output

module _ {B : Type 0} (c : Call) (i : ℕ) (m : List ℕ) where
  -- of a call that leaves r, and z if it is refused
  abbrev with_map : Option ℕ → ℕ × B → B × List ℕ → ℕ × (B × List ℕ)
  with_map o r z = settle o (r.0, (r.1, marked (marks c r.0) i m)) z

  with_done : {o : Option ℕ} {r : ℕ × B} {k : ℕ} {x : B} {n : List ℕ} (z : B × List ℕ) → o ≡ none → r ≡ (k, x) → n ≡ marked (marks c k) i m → with_map o r z ≡ (k, (x, n))
  with_done {o} {r} {k} {x} {n} z e d h =
      settle_none (r.0, (r.1, marked (marks c r.0) i m)) z e
      ∙ ap (λ (q : ℕ × B). (q.0, (q.1, marked (marks c q.0) i m))) d
      ∙ ap (λ (w : List ℕ). (k, (x, w))) (sym h)

  -- by a number that keeps the map
  with_kept : {o : Option ℕ} (r : ℕ × B) (b : B) {k : ℕ} → o ≡ some k → marks c k ≡ Keeps → with_map o r (b, m) ≡ (k, (b, marked (marks c k) i m))
  with_kept r b {k} e q = settle_some (r.0, (r.1, marked (marks c r.0) i m)) (b, m) e ∙ ap (λ (x : Mark). (k, (b, marked x i m))) (sym q)

  -- where every refusal of o is also the call's own, and keeps the map
  with_same : (o : Option ℕ) (r : ℕ × B) (b : B) → ((k : ℕ) → o ≡ some k → (r ≡ (k, b)) × (marks c k ≡ Keeps)) → with_map o r (b, m) ≡ (r.0, (r.1, marked (marks c r.0) i m))
  with_same none r b h = refl
  with_same (some k) r b h =
      with_kept r b refl (h k refl).1 ∙ ap (λ (q : ℕ × B). (q.0, (q.1, marked (marks c q.0) i m))) (sym (h k refl).0)

  -- refused by the first rules, which keep the map, or else by the call itself
  with_first : (xs ys : List Rule) (r : ℕ × B) (b : B) (k : ℕ) → first_of (xs ++ ys) ≡ some k → ((j : ℕ) → first_of xs ≡ some j → marks c j ≡ Keeps)
      → (first_of xs ≡ none → r ≡ (k, b)) → with_map (first_of xs) r (b, m) ≡ (k, (b, marked (marks c k) i m))
  with_first xs ys r b k e q h = go (first_of xs) refl
    where
      go : (o : Option ℕ) → first_of xs ≡ o → with_map (first_of xs) r (b, m) ≡ (k, (b, marked (marks c k) i m))
      go none f = with_done (b, m) f (h f) refl
      go (some j) f =
          let z : some j ≡ some k = sym (first_some_lem ys xs f) ∙ e in
          let n : j ≡ k = cc in
          subst (λ (k : ℕ). with_map (first_of xs) r (b, m) ≡ (k, (b, marked (marks c k) i m))) n (with_kept r b f (q j f))

-- ---- what a call leaves

-- the map n is what the call's mark makes of m, where it answers k
record Marked (c : Call) (i : ℕ) (m : List ℕ) (k : ℕ) (n : List ℕ) : Type 0 where
  by_mark : n ≡ marked (marks c k) i m
  room : Room (marks c k) i (length m)

-- an answer that keeps the map
kept : (c : Call) (i : ℕ) (m : List ℕ) (k : ℕ) → marks c k ≡ Keeps → Marked c i m k m
kept c i m k e = record {
  by_mark = ap (λ (x : Mark). marked x i m) (sym e);
  room = subst (λ (x : Mark). Room x i (length m)) (sym e) tt;
}

module _ (seals : Schemes) (v : Triple) (a : Args) (c : Call) (m : List ℕ) where
  pub marked_done : {k : ℕ} {x : Triple} {n : List ℕ} → map_refusal v a m ≡ none → outcome seals v a c ≡ (k, x)
      → n ≡ marked (marks c k) a.number m → map_outcome seals v a c m ≡ (k, (x, n))
  unfolding map_outcome
  marked_done e d h = with_done c a.number m _ e d h

  pub marked_refused : {k : ℕ} → map_refusal v a m ≡ some k → map_outcome seals v a c m ≡ (k, (v, m))
  unfolding map_outcome
  marked_refused e = settle_some _ (v, m) e

  -- refused or not, with any map
  leaves_marked : Marked c a.number m (map_outcome seals v a c m).0 (map_outcome seals v a c m).1.1
  leaves_marked = go (map_refusal v a m) refl
    where
      go : (o : Option ℕ) → map_refusal v a m ≡ o → Marked c a.number m (map_outcome seals v a c m).0 (map_outcome seals v a c m).1.1
      go none e =
          subst (λ (r : ℕ × (Triple × List ℕ)). Marked c a.number m r.0 r.1.1) (sym (marked_done e refl refl))
          (record { by_mark = refl; room = room v a m (marks c (outcome seals v a c).0) e })
      go (some k) e =
          subst (λ (r : ℕ × (Triple × List ℕ)). Marked c a.number m r.0 r.1.1) (sym (marked_refused e))
          (kept c a.number m k (before_keeps v a m c k e))

  bits_after : (i : ℕ) → bit i (map_outcome seals v a c m).1.1 ≡ cond (eqb i a.number) (turned (marks c (map_outcome seals v a c m).0) (bit i m)) (bit i m)
  bits_after i =
      ap (bit i) leaves_marked.by_mark
      ∙ bit-marked (marks c (map_outcome seals v a c m).0) i a.number m leaves_marked.room

  length-after : length (map_outcome seals v a c m).1.1 ≡ length m
  length-after = ap length leaves_marked.by_mark ∙ length_marked (marks c (map_outcome seals v a c m).0) a.number m

  words_after : Words m → Words (map_outcome seals v a c m).1.1
  words_after h = subst Words (sym leaves_marked.by_mark) (words_marked (marks c (map_outcome seals v a c m).0) a.number m h)

  -- a call that `map_refusal` refuses with a right map is refused without it
  early_refused : length m ≡ map_words a.volume.count → {k : ℕ} → map_refusal v a m ≡ some k → first_of (early v a c) ≡ some k
  unfolding early
  early_refused w e = first_some_lem (lengths a c) (volume_only v a.volume ++ nine a) (sym (right_words v a.volume m (nine a) w) ∙ e)

  pub as_without : length m ≡ map_words a.volume.count
      → map_outcome seals v a c m ≡ ((outcome seals v a c).0, ((outcome seals v a c).1, marked (marks c (outcome seals v a c).0) a.number m))
  unfolding map_outcome
  as_without w =
      with_same c a.number m (map_refusal v a m) (outcome seals v a c) v
      (λ k e. (outcome_early seals v a c (early_refused w e), before_keeps v a m c k e))

-- ---- a read

module _ (seals : Schemes) (v : Triple) (a : Args) (out m : List ℕ) where
  abbrev this : Call
  this = read (length out)

  pub read_done : {k : ℕ} {x n : List ℕ} → map_refusal v a m ≡ none → read_outcome seals v a out ≡ (k, x)
      → n ≡ marked (marks this k) a.number m → map_read_outcome seals v a out m ≡ (k, (x, n))
  unfolding map_read_outcome
  read_done e d h = with_done this a.number m _ e d h

  pub read_refused : {k : ℕ} → map_refusal v a m ≡ some k → map_read_outcome seals v a out m ≡ (k, (out, m))
  unfolding map_read_outcome
  read_refused e = settle_some _ (out, m) e

  pub read_as_without : length m ≡ map_words a.volume.count
      → map_read_outcome seals v a out m ≡ ((read_outcome seals v a out).0, ((read_outcome seals v a out).1, marked (marks this (read_outcome seals v a out).0) a.number m))
  unfolding map_read_outcome
  read_as_without w =
      with_same this a.number m (map_refusal v a m) (read_outcome seals v a out) out
      (λ k e. (read_early seals v a out (early_refused seals v a this m w e), before_keeps v a m this k e))

  read_same : map_outcome seals v a this m ≡ ((map_read_outcome seals v a out m).0, (v, (map_read_outcome seals v a out m).1.1))
  unfolding map_outcome map_read_outcome
  read_same = ap (λ (r : ℕ × Triple). with_map this a.number m (map_refusal v a m) r (v, m)) (outcome-read seals v a out) ∙ go (map_refusal v a m)
    where
      go : (o : Option ℕ) →
          let r = with_map this a.number m o (read_outcome seals v a out) (out, m) in
          with_map this a.number m o ((read_outcome seals v a out).0, v) (v, m) ≡ (r.0, (v, r.1.1))
      go none = refl
      go (some k) = refl

-- ---- a survey

module _ (v : Triple) (vol : Volume) (m list : List ℕ) where
  pub survey_refused : {k : ℕ} → map_survey_refusal v vol m (length list) ≡ some k → map_survey_outcome v vol m list ≡ (refused k, list)
  unfolding map_survey_outcome
  survey_refused e = ap (λ (o : Option ℕ). settle_by refused o (survey_outcome v vol list) list) e

  pub survey_done : {x : Report × List ℕ} → map_survey_refusal v vol m (length list) ≡ none → survey_outcome v vol list ≡ x → map_survey_outcome v vol m list ≡ x
  unfolding map_survey_outcome
  survey_done e d = ap (λ (o : Option ℕ). settle_by refused o (survey_outcome v vol list) list) e ∙ d

  list_right : length m ≡ map_words vol.count → map_survey_refusal v vol m (length list) ≡ survey_refusal v vol (length list)
  list_right e = right_words v vol m (list_rules vol.count (length list)) e

  pub survey_goes_on : map_survey_refusal v vol m (length list) ≡ none → survey_refusal v vol (length list) ≡ none
  survey_goes_on e = sym (list_right (words_right v vol m (list_rules vol.count (length list)) e).0) ∙ e

  survey_as_without : length m ≡ map_words vol.count → map_survey_outcome v vol m list ≡ survey_outcome v vol list
  survey_as_without w = go (survey_refusal v vol (length list)) refl
    where
      go : (o : Option ℕ) → survey_refusal v vol (length list) ≡ o → map_survey_outcome v vol m list ≡ survey_outcome v vol list
      go none e = survey_done (list_right w ∙ e) refl
      go (some k) e = survey_refused (list_right w ∙ e) ∙ sym (R.survey_refused v vol list e)

-- ---- the order of the refusals

-- past those of `map_refusal` the call's own refusals are in the same order
pub goes_on : (v : Triple) (a : Args) (c : Call) (m : List ℕ) → map_refusal v a m ≡ none → refusal mirror v a c ≡ first_of (call_order v a c m)
unfolding refusal early
goes_on v a c m e =
    let rest : List Rule = lengths a c ++ late (sealing mirror a) a.number (sector v a) c in
    first_none rest (volume_only v a.volume ++ nine a) (sym (right_words v a.volume m (nine a) (map_passed v a m e).0) ∙ e)
    ∙ sym (first_none rest (first_rules v a m) e)

-- what a read leaves that is refused without a map

refused_reads : (seals : Schemes) (v : Triple) (a : Args) (out : List ℕ) (k : ℕ) → refusal seals v a (read (length out)) ≡ some k → read_outcome seals v a out ≡ (k, out)
unfolding read_outcome
refused_reads seals v a out k e = ap (λ (r : Answer). (answer_number r, output r out)) (answer_refused seals v a (read (length out)) k e)

module _ (v : Triple) (a : Args) (m : List ℕ) where
  pub refuses : (c : Call) (k : ℕ) → first_of (call_order v a c m) ≡ some k → map_outcome mirror v a c m ≡ (k, (v, marked (marks c k) a.number m))
  unfolding map_outcome
  refuses c k e =
      with_first c a.number m (first_rules v a m) (lengths a c ++ late (sealing mirror a) a.number (sector v a) c) (outcome mirror v a c) v k e
      (before_keeps v a m c) (λ f. outcome_refused mirror v a c (goes_on v a c m f ∙ e))

  read_refuses : (out : List ℕ) (k : ℕ) → first_of (call_order v a (read (length out)) m) ≡ some k
      → map_read_outcome mirror v a out m ≡ (k, (out, marked (marks (read (length out)) k) a.number m))
  unfolding map_read_outcome
  read_refuses out k e =
      let c : Call = read (length out) in
      with_first c a.number m (first_rules v a m) (lengths a c ++ late (sealing mirror a) a.number (sector v a) c) (read_outcome mirror v a out) out k e
      (before_keeps v a m c) (λ f. refused_reads mirror v a out k (goes_on v a c m f ∙ e))

-- ---- a call that no rule turns away

-- it is refused neither with the map nor without it
pub none_of_order : (v : Triple) (a : Args) (c : Call) (m : List ℕ) → first_of (call_order v a c m) ≡ none
    → (map_refusal v a m ≡ none) × (refusal mirror v a c ≡ none)
none_of_order v a c m e =
    let first : map_refusal v a m ≡ none = none_left (lengths a c ++ late (sealing mirror a) a.number (sector v a) c) (first_rules v a m) e in
    (first, goes_on v a c m first ∙ e)

-- without it, it answers its result's number
pub accepted_number : (v : Triple) (a : Args) (c : Call) → refusal mirror v a c ≡ none
    → (outcome mirror v a c).0 ≡ answer_number (result (sealing mirror a) a.number (sector v a) c)
unfolding outcome answer
accepted_number v a c e = ap (λ (o : Option ℕ). answer_number (reply o (result (sealing mirror a) a.number (sector v a) c))) e

finishes : (v : Triple) (a : Args) (c : Call) (m : List ℕ) → first_of (call_order v a c m) ≡ none → is_finished (map_outcome mirror v a c m).0 ≡ true
finishes v a c m e =
    let n = none_of_order v a c m e in
    ap (λ (r : ℕ × (Triple × List ℕ)). is_finished r.0) (marked_done mirror v a c m n.0 refl refl)
    ∙ ap is_finished (accepted_number v a c n.1)
    ∙ result_finished (sealing mirror a) a.number (sector v a) c

pub map_calls : MapCalls
map_calls = record {
  refuses = λ v a c m. refuses v a m c;
  read_refuses = λ v a out m. read_refuses v a m out;
  lost_or_clashing_sets = lost_or_clashing_sets;
  other_refusals = λ v a c m k e n. others_keep c k n (refused_ends v a c m k e);
  finishes = finishes;
  survey_refuses = λ v vol m list k. survey_refused v vol m list;
  as_without = as_without mirror;
  read_as_without = read_as_without mirror;
  survey_as_without = survey_as_without;
  read_same = read_same mirror;
  bits = bits_after mirror;
  length_stays = length-after mirror;
  words_stay = words_after mirror;
}
