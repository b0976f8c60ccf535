-- A write by what fits. Assumes nothing but the laws of the sealing.
use mathlib.Core.Path.{◌≡◌, refl, sym, ap, subst, ◌∙◌}
use mathlib.Core.Logic.{◌⊎◌, inl, inr}
use mathlib.Core.Bool.{Bool, true, false, not}
use mathlib.Core.List.{List, [], ◌∷◌, ◌++◌, append_assoc}
use mathlib.Core.Option.{Option, none, some}
use Prim.Native.Nat.{ℕ, ◌/◌, ◌<◌}
use lib.Dec.{eqb}
use lib.ListN.{length}
use Rattle.bits.specs.Bits.{Words, mark}
use Rattle.bits.proofs.Bits.{bits_facts}
use Rattle.block.specs.Bytes.{Bytes, Plain}
use Rattle.mode.specs.Sealing.{Triple}
use Rattle.mode.specs.Scheme.{Place, local, tag, remote, on, wide, Scheme, Lawful}
use Rattle.verdict.specs.Verdict.{Verdict, whole, doubtful, lost, clashing, judge}
use Rattle.verdict.specs.Judging.{verdict_number}
use Rattle.verdict.proofs.JudgeExact.{same_place, local_tag, two_but, but_miss}
use Rattle.answers.specs.Answers.{doubt_number}
use Rattle.answers.specs.Rules.{Rule, rule, first_of, Args, is_shape, shape, length_rules, map_rules, map_words}
use Rattle.answers.proofs.Rules.{first_none, first_some_lem, none_left, none_right}
use Rattle.answers.proofs.Passing.{Common, common, length_due}
use Rattle.history.specs.HistoryFrom.{AnyBytes}
use Rattle.history.specs.Meaning.{Passes, Is, FitsAt, sealed_in, sealed_all, CallMeans}
use Rattle.history.specs.Power.{Images}
use Rattle.history.specs.Volume.{Call, blank, first, second, third, mend, read, lengths, store, judge_rules, sector, sealing, mirror, outcome, read_outcome}
use Rattle.history.proofs.Demand3.{mirror_sound}
use Rattle.history.proofs.Images.{any_bytes, images_write, sector-write, passed_lawful}
use Rattle.history.proofs.Meaning.{calls_mean}
use Rattle.history.proofs.Options.{none_some}
use Rattle.history.proofs.Refusals.{passes_early, shape_images}
use Rattle.history.proofs.Sector.{on_store, on_store_other}
use Rattle.suspects.specs.declared.Mark.{Mark}
use Rattle.suspects.specs.declared.Mark.TheVariants.{Keeps}
use Rattle.suspects.specs.Marks.{is_finished, lost_or_clashing, marks, marked, map_refusal, first_rules, map_outcome, map_read_outcome}
use Rattle.suspects.specs.Calls.{call_order}
use Rattle.suspects.proofs.Calls.{map_calls}
use Rattle.suspects.proofs.Marking.{volume_only, nine, map_passed, in_map, doubt_read, doubt_mended, before_keeps}
use Rattle.writes.specs.Write.{stages, following, calls_leave, write_outcome}
use Rattle.writes.specs.Meaning.{calls_answer, write_rules, WritePasses, written, WriteMeans, WritesMean}
use Rattle.writes.proofs.Accepted.{keeps_unfinished}
use Rattle.writes.proofs.Following.{after_doubt, after-refusal, wrote}
use Rattle.writes.proofs.Overwriting.{all_written, mark-mark}

-- ---- calls one after the other

-- what they answer, and the images and the map that they leave
abbrev ran : Args → List Call → Triple × List ℕ → List ℕ × (Triple × List ℕ)
ran a cs d = (calls_answer a cs d, calls_leave mirror a cs d)

ran_one : (a : Args) (c : Call) (cs : List Call) (v : Triple) (m : List ℕ) {k : ℕ} {d : Triple × List ℕ} → map_outcome mirror v a c m ≡ (k, d) → {ks : List ℕ} {e : Triple × List ℕ} → ran a cs d ≡ (ks, e)
    → ran a (c ∷ cs) (v, m) ≡ (k ∷ ks, e)
ran_one a c cs v m {k} h g =
    ap (λ (r : ℕ × (Triple × List ℕ)). (r.0 ∷ calls_answer a cs r.1, calls_leave mirror a cs r.1)) h
    ∙ ap (λ (x : List ℕ × (Triple × List ℕ)). (k ∷ x.0, x.1)) g

-- ---- a sector that a call may name

module _ (a : Args) where
  abbrev s : ℕ
  s = a.volume.size

  abbrev i : ℕ
  i = a.number

  abbrev S : Scheme
  S = sealing mirror a

  -- images and a map that pass the checks of every call of the write
  record Open (v : Triple) (m : List ℕ) : Type 0 where
    bytes : AnyBytes v
    common : Common v a.volume
    number : i < a.volume.count
    words : length m ≡ map_words a.volume.count

  module _ (v : Triple) (m : List ℕ) (o : Open v m) where
    images : Images s a.volume.count v
    images = shape_images s a.volume.count v o.common.shape o.bytes

    lawful : Lawful s S
    lawful = passed_lawful mirror mirror_sound v a o.common

    means : CallMeans v a
    means = calls_mean v o.bytes a

    passes : (c : Call) → first_of (lengths a c) ≡ none → Passes v a c
    passes c l = passes_early v a c (record { common = o.common; number = o.number; lengths = l })

    -- what a call answers and leaves without a map, with one
    with_map_lem : (c : Call) {k : ℕ} {w : Triple} → outcome mirror v a c ≡ (k, w) → map_outcome mirror v a c m ≡ (k, (w, marked (marks c k) i m))
    with_map_lem c e =
        map_calls.as_without v a c m o.words
        ∙ ap (λ (r : ℕ × Triple). (r.0, (r.1, marked (marks c r.0) i m))) e

    -- a place of the sector written as P seals
    module _ (p : Place) (P : List ℕ) (plain : Plain s P) where
      sealed_plain : Plain (wide s p) (on (S.sealed i P) p)
      sealed_plain = (lawful.shape i P plain).places p

      sealed-sector : sector (sealed_in v a p P) a ≡ store p (on (S.sealed i P) p) (sector v a)
      sealed-sector = sector-write s a.volume.count i o.number p (on (S.sealed i P) p) sealed_plain v images

      sealed_images : Images s a.volume.count (sealed_in v a p P)
      sealed_images = images_write s a.volume.count i o.number p (on (S.sealed i P) p) sealed_plain v images

      -- P fits it
      fits_there : FitsAt (sealed_in v a p P) a p P
      fits_there = ap (λ (t : Triple). on t p) sealed-sector ∙ on_store p (on (S.sealed i P) p) (sector v a)

      -- and what fitted another place still does
      fits_still : (q : Place) → (q ≡ p → ⊥) → (Q : List ℕ) → FitsAt v a q Q → FitsAt (sealed_in v a p P) a q Q
      fits_still q n Q f = ap (λ (t : Triple). on t q) sealed-sector ∙ on_store_other p q (on (S.sealed i P) p) (sector v a) n ∙ f

    -- images of the same lengths, and a map of as many words, pass the checks too
    same_shape : (w : Triple) → Images s a.volume.count w → is_shape s a.volume.count w ≡ true
    unfolding is_shape
    same_shape w I =
        let n : ℕ = a.volume.count in
        let same : (p : Place) → length (on w p) ≡ length (on v p) = λ p. (I.images p).long ∙ sym (images.images p).long in
        ap (λ (l : ℕ). shape s n l (length w.tag) (length w.remote)) (same local)
        ∙ ap (λ (g : ℕ). shape s n (length v.local) g (length w.remote)) (same tag)
        ∙ ap (λ (r : ℕ). shape s n (length v.local) (length v.tag) r) (same remote)
        ∙ o.common.shape

    open_after : (w : Triple) → Images s a.volume.count w → (k : List ℕ) → length k ≡ length m → Open w k
    open_after w I k e = record {
      bytes = any_bytes s a.volume.count w I;
      common = record { key = o.common.key; hash = o.common.hash; size = o.common.size; shape = same_shape w I };
      number = o.number;
      words = e ∙ o.words;
    }

  -- ---- the three stages

  module _ (P : List ℕ) (plain : Plain s P) (long : first_of (lengths a (first P)) ≡ none) where
    mark-length : (b : Bool) (m : List ℕ) → length (mark i b m) ≡ length m
    mark-length b m = bits_facts.length_stays i b m

    run_stages : (v : Triple) (m : List ℕ) → Open v m → (Q : List ℕ) → Is v a (whole Q)
        → ran a (stages P) (v, m) ≡ (0 ∷ 0 ∷ 0 ∷ [], (sealed_all v a P, mark i false (mark i true (mark i true m))))
    unfolding is_finished
    run_stages v m o Q is =
        let v₁ : Triple = sealed_in v a local P in
        let m₁ : List ℕ = mark i true m in
        let o₁ : Open v₁ m₁ = open_after v m o v₁ (sealed_images v m o local P plain) m₁ (mark-length true m) in
        let fits₁ : FitsAt v₁ a local P = fits_there v m o local P plain in
        let v₂ : Triple = sealed_in v₁ a tag P in
        let m₂ : List ℕ = mark i true m₁ in
        let o₂ : Open v₂ m₂ = open_after v₁ m₁ o₁ v₂ (sealed_images v₁ m₁ o₁ tag P plain) m₂ (mark-length true m₁) in
        let both : FitsAt v₂ a local P × FitsAt v₂ a tag P = (fits_still v₁ m₁ o₁ tag P plain local local_tag P fits₁, fits_there v₁ m₁ o₁ tag P plain) in
        ran_one a (first P) (second P ∷ third P ∷ []) v m (with_map_lem v m o (first P) ((means v m o).first_writes P (passes v m o (first P) long) Q is))
        (ran_one a (second P) (third P ∷ []) v₁ m₁ (with_map_lem v₁ m₁ o₁ (second P) ((means v₁ m₁ o₁).second_writes P (passes v₁ m₁ o₁ (second P) long) fits₁))
        (ran_one a (third P) [] v₂ m₂ (with_map_lem v₂ m₂ o₂ (third P) ((means v₂ m₂ o₂).third_writes P (passes v₂ m₂ o₂ (third P) long) both)) refl))

  -- ---- a mend

  -- after the mend of a doubtful sector it is whole
  mended_whole : (v : Triple) (m : List ℕ) → Open v m → (d : Place) (Q : List ℕ) → Is v a (doubtful d Q) → Is (sealed_in v a d Q) a (whole Q)
  mended_whole v m o d Q is = (is.0, λ p. go p (same_place p d))
    where
      go : (p : Place) → (p ≡ d) ⊎ (p ≡ d → ⊥) → FitsAt (sealed_in v a d Q) a p Q
      go p (inl e) = subst (λ (q : Place). FitsAt (sealed_in v a d Q) a q Q) (sym e) (fits_there v m o d Q is.0)
      go p (inr n) =
          let but = two_but S i (sector v a) Q is.1 in
          let miss : d ≡ but.0 = but_miss S i (sector v a) but.0 d Q but.1 is.3 in
          fits_still v m o d Q is.0 p n Q (but.1 p (λ z. n (z ∙ sym miss)))

-- ---- the write

-- refusal 3 keeps the map
three_keeps : (c : Call) → marks c 3 ≡ Keeps
unfolding is_finished lost_or_clashing
three_keeps blank = refl
three_keeps (first P) = refl
three_keeps (second P) = refl
three_keeps (third P) = refl
three_keeps mend = refl
three_keeps (read o) = refl

module _ (v : Triple) (b : AnyBytes v) (a : Args) (P : List ℕ) (bytes : Bytes P) (m : List ℕ) where
  abbrev here : ℕ
  here = a.number

  -- ---- refused before the verdict

  -- none of these refusals marks the map, of a read or of a mend
  pub rules-keep : (c : Call) (k : ℕ) → first_of (write_rules v a P m) ≡ some k → marks c k ≡ Keeps
  rules-keep c k e = go (map_refusal v a m) refl
    where
      length_keeps : (x : Bool) → first_of (rule 3 x ∷ []) ≡ some k → marks c k ≡ Keeps
      length_keeps true z = let is : 3 ≡ k = cc in subst (λ (j : ℕ). marks c j ≡ Keeps) is (three_keeps c)
      length_keeps false z = absurd (none_some z)

      go : (o : Option ℕ) → map_refusal v a m ≡ o → marks c k ≡ Keeps
      go none f = length_keeps (not (eqb (length P) a.volume.size)) (sym (first_none (length_rules (length P) a.volume.size) (first_rules v a m) f) ∙ e)
      go (some j) f =
          let z : some j ≡ some k = sym (first_some_lem (length_rules (length P) a.volume.size) (first_rules v a m) f) ∙ e in
          let is : j ≡ k = cc in
          subst (λ (x : ℕ). marks c x ≡ Keeps) is (before_keeps v a m c j f)

  pub read_refused : (k : ℕ) → first_of (write_rules v a P m) ≡ some k → map_outcome mirror v a (read (length P)) m ≡ (k, (v, m))
  read_refused k e =
      let own : List Rule = judge_rules (judge (sealing mirror a) a.number (sector v a)) in
      let order : first_of (call_order v a (read (length P)) m) ≡ some k =
      ap first_of (sym (append_assoc (first_rules v a m) (length_rules (length P) a.volume.size) own)) ∙ first_some_lem own (write_rules v a P m) e in
      map_calls.refuses v a (read (length P)) m k order
      ∙ ap (λ (x : Mark). (k, (v, marked x a.number m))) (rules-keep (read (length P)) k e)

  write_refused : (k : ℕ) → first_of (write_rules v a P m) ≡ some k → write_outcome mirror v a P m ≡ (k, (v, m))
  write_refused k e = wrote v a P m (read_refused k e) (after-refusal P k (keeps_unfinished (read (length P)) k (rules-keep (read (length P)) k e))) refl

  -- ---- past those refusals

  module _ (e : WritePasses v a P m) where
    pub first_passed : map_refusal v a m ≡ none
    first_passed = none_left (length_rules (length P) a.volume.size) (first_rules v a m) e

    long : first_of (lengths a (first P)) ≡ none
    long = none_right (length_rules (length P) a.volume.size) (first_rules v a m) e

    plain : Plain a.volume.size P
    plain = record { long = length_due (length P) a.volume.size long; bytes = bytes }

    checked : Open a v m
    checked = record {
      bytes = b;
      common = common v a.volume (none_left (map_rules a.volume.count (length m) ++ nine a) (volume_only v a.volume) first_passed);
      number = (map_passed v a m first_passed).1;
      words = (map_passed v a m first_passed).0;
    }

    -- the read, with an output of as many bytes
    reads : {k : ℕ} {x : List ℕ} → read_outcome mirror v a P ≡ (k, x) → map_outcome mirror v a (read (length P)) m ≡ (k, (v, marked (marks (read (length P)) k) here m))
    reads {k} h = with_map_lem a v m checked (read (length P)) ((means a v m checked).read_leaves P ∙ ap (λ (r : ℕ × List ℕ). (r.0, v)) h)

    read_passes : Passes v a (read (length P))
    read_passes = passes a v m checked (read (length P)) long

    -- the marks of the stages, over others
    abbrev staged : List ℕ → List ℕ
    staged k = mark here false (mark here true (mark here true k))

    ran_whole : (Q : List ℕ) → Is v a (whole Q) → ran a (read (length P) ∷ stages P) (v, m) ≡ (0 ∷ 0 ∷ 0 ∷ 0 ∷ [], (sealed_all v a P, staged (mark here false m)))
    unfolding is_finished
    ran_whole Q is =
        let m₁ : List ℕ = mark here false m in
        let o₁ : Open a v m₁ = open_after a v m checked v (images a v m checked) m₁ (bits_facts.length_stays here false m) in
        ran_one a (read (length P)) (stages P) v m (reads (((means a v m checked).read_whole P read_passes Q).1 is)) (run_stages a P plain long v m₁ o₁ Q is)

    -- the read and the mend of a doubtful sector
    module _ (d : Place) (Q : List ℕ) (is : Is v a (doubtful d Q)) where
      read_doubtful : map_outcome mirror v a (read (length P)) m ≡ (doubt_number d, (v, mark here true m))
      read_doubtful =
          reads (((means a v m checked).read_doubtful P read_passes d Q).1 is)
          ∙ ap (λ (x : Mark). (doubt_number d, (v, marked x here m))) (doubt_read (length P) d)

      open₁ : Open a v (mark here true m)
      open₁ = open_after a v m checked v (images a v m checked) (mark here true m) (bits_facts.length_stays here true m)

      mend_doubtful : map_outcome mirror v a mend (mark here true m) ≡ (doubt_number d, (sealed_in v a d Q, mark here false (mark here true m)))
      mend_doubtful =
          with_map_lem a v (mark here true m) open₁ mend ((means a v (mark here true m) open₁).mend_writes (passes a v (mark here true m) open₁ mend refl) d Q is)
          ∙ ap (λ (x : Mark). (doubt_number d, (sealed_in v a d Q, marked x here (mark here true m)))) (doubt_mended d)

      open₂ : Open a (sealed_in v a d Q) (mark here false (mark here true m))
      open₂ =
          open_after a v (mark here true m) open₁ (sealed_in v a d Q) (sealed_images a v (mark here true m) open₁ d Q is.0)
          (mark here false (mark here true m)) (bits_facts.length_stays here false (mark here true m))

      -- what the mend has written is written over
      mend_covered : sealed_all (sealed_in v a d Q) a P ≡ sealed_all v a P
      mend_covered =
          all_written a.volume.size a.volume.count here checked.number v (images a v m checked) (on ((sealing mirror a).sealed here P))
          (λ p. (sealed_plain a v m checked p P plain).long) d (on ((sealing mirror a).sealed here Q) d) (sealed_plain a v m checked d Q is.0).long

      ran_doubtful : ran a (read (length P) ∷ mend ∷ stages P) (v, m)
          ≡ (doubt_number d ∷ doubt_number d ∷ 0 ∷ 0 ∷ 0 ∷ [], (sealed_all v a P, staged (mark here false (mark here true m))))
      ran_doubtful =
          ran_one a (read (length P)) (mend ∷ stages P) v m read_doubtful
          (ran_one a mend (stages P) v (mark here true m) mend_doubtful
          (run_stages a P plain long (sealed_in v a d Q) (mark here false (mark here true m)) open₂ Q (mended_whole a v (mark here true m) open₁ d Q is)))
          ∙ ap (λ (u : Triple). (doubt_number d ∷ doubt_number d ∷ 0 ∷ 0 ∷ 0 ∷ [], (u, staged (mark here false (mark here true m))))) mend_covered

    -- the number of the read's answer, and what the calls after it leave
    ran_write : {k : ℕ} {d : Triple × List ℕ} (cs : List Call) {ks : List ℕ} {x : Triple × List ℕ} → map_outcome mirror v a (read (length P)) m ≡ (k, d) → following P k ≡ cs
        → ran a (read (length P) ∷ cs) (v, m) ≡ (ks, x) → write_outcome mirror v a P m ≡ (k, x)
    ran_write cs h f g = wrote v a P m h f (sym (ap (λ (r : ℕ × (Triple × List ℕ)). calls_leave mirror a cs r.1) h) ∙ ap (λ (r : List ℕ × (Triple × List ℕ)). r.1) g)

    write_lost : Is v a lost → write_outcome mirror v a P m ≡ (6, (v, mark here true m))
    unfolding is_finished lost_or_clashing
    write_lost is = wrote v a P m (reads (((means a v m checked).read_lost P read_passes).1 is)) refl refl

    write_clashing : Is v a clashing → write_outcome mirror v a P m ≡ (7, (v, mark here true m))
    unfolding is_finished lost_or_clashing
    write_clashing is = wrote v a P m (reads (((means a v m checked).read_clashing P read_passes).1 is)) refl refl

    -- the number of the answer, by the verdict: of the read, and so of the write
    pub read_by : (w : Verdict) → Is v a w → (map_outcome mirror v a (read (length P)) m).0 ≡ verdict_number w
    read_by (whole Q) is = ap (λ (r : ℕ × (Triple × List ℕ)). r.0) (reads (((means a v m checked).read_whole P read_passes Q).1 is))
    read_by (doubtful d Q) is = ap (λ (r : ℕ × (Triple × List ℕ)). r.0) (reads (((means a v m checked).read_doubtful P read_passes d Q).1 is))
    read_by lost is = ap (λ (r : ℕ × (Triple × List ℕ)). r.0) (reads (((means a v m checked).read_lost P read_passes).1 is))
    read_by clashing is = ap (λ (r : ℕ × (Triple × List ℕ)). r.0) (reads (((means a v m checked).read_clashing P read_passes).1 is))

    pub number_by : (w : Verdict) → Is v a w → (write_outcome mirror v a P m).0 ≡ verdict_number w
    unfolding write_outcome
    number_by w is = read_by w is

    pub one_verdict : (w : Verdict) × Is v a w × ((u : Verdict) → Is v a u → u ≡ w)
    one_verdict = (means a v m checked).one_verdict (read (length P)) read_passes

    pub whole_runs : (Q : List ℕ) → Is v a (whole Q) → calls_answer a (read (length P) ∷ stages P) (v, m) ≡ 0 ∷ 0 ∷ 0 ∷ 0 ∷ []
    whole_runs Q is = ap (λ (r : List ℕ × (Triple × List ℕ)). r.0) (ran_whole Q is)

    pub doubtful_runs : (d : Place) (Q : List ℕ) → Is v a (doubtful d Q) → calls_answer a (read (length P) ∷ mend ∷ stages P) (v, m) ≡ doubt_number d ∷ doubt_number d ∷ 0 ∷ 0 ∷ 0 ∷ []
    doubtful_runs d Q is = ap (λ (r : List ℕ × (Triple × List ℕ)). r.0) (ran_doubtful d Q is)

    -- ---- the map

    module _ (w : Words m) where
      -- of marks of one bit the last is what shows
      over : (x y : Bool) (k : List ℕ) → Words k → length k ≡ length m → mark here x (mark here y k) ≡ mark here x k
      over x y k ws e = mark-mark here x y k ws (subst (λ (n : ℕ). here / 64 < n) (sym e) (in_map v a m first_passed))

      last_mark : (x : Bool) → mark here false (mark here true (mark here true (mark here x m))) ≡ mark here false m
      last_mark x =
          let m₁ : List ℕ = mark here x m in
          let w₁ : Words m₁ = bits_facts.words_stay here x m w in
          let l₁ : length m₁ ≡ length m = bits_facts.length_stays here x m in
          ap (mark here false) (over true true m₁ w₁ l₁) ∙ over false true m₁ w₁ l₁ ∙ over false x m w refl

      write_whole : (Q : List ℕ) → Is v a (whole Q) → write_outcome mirror v a P m ≡ (0, written v a P m)
      write_whole Q is = ran_write (stages P) (reads (((means a v m checked).read_whole P read_passes Q).1 is)) refl (ran_whole Q is ∙ ap (λ (k : List ℕ). (0 ∷ 0 ∷ 0 ∷ 0 ∷ [], (sealed_all v a P, k))) (last_mark false))

      write_doubtful : (d : Place) (Q : List ℕ) → Is v a (doubtful d Q) → write_outcome mirror v a P m ≡ (doubt_number d, written v a P m)
      write_doubtful d Q is = ran_write (mend ∷ stages P) (reads (((means a v m checked).read_doubtful P read_passes d Q).1 is)) (after_doubt P d)
          (ran_doubtful d Q is ∙ ap (λ (k : List ℕ). (doubt_number d ∷ doubt_number d ∷ 0 ∷ 0 ∷ 0 ∷ [], (sealed_all v a P, staged k))) (over false true m w refl) ∙ ap (λ (k : List ℕ). (doubt_number d ∷ doubt_number d ∷ 0 ∷ 0 ∷ 0 ∷ [], (sealed_all v a P, k))) (last_mark false))

  -- ---- the number

  as_read : (out : List ℕ) → length out ≡ length P → (write_outcome mirror v a P m).0 ≡ (map_read_outcome mirror v a out m).0
  unfolding write_outcome
  as_read out e =
      ap (λ (o : ℕ). (map_outcome mirror v a (read o) m).0) (sym e)
      ∙ ap (λ (r : ℕ × (Triple × List ℕ)). r.0) (map_calls.read_same v a out m)

  -- ---- the map by the number

  abbrev ByAnswer : ℕ × (Triple × List ℕ) → Type 0
  ByAnswer r = r.1.1 ≡ marked (marks mend r.0) a.number m

  map_by_answer : Words m → ByAnswer (write_outcome mirror v a P m)
  unfolding is_finished lost_or_clashing
  map_by_answer w = go (first_of (write_rules v a P m)) refl
    where
      by_verdict : (e : WritePasses v a P m) (u : Verdict) → Is v a u → ByAnswer (write_outcome mirror v a P m)
      by_verdict e (whole Q) is = subst ByAnswer (sym (write_whole e w Q is)) refl
      by_verdict e (doubtful d Q) is = subst ByAnswer (sym (write_doubtful e w d Q is)) (sym (ap (λ (x : Mark). marked x a.number m) (doubt_mended d)))
      by_verdict e lost is = subst ByAnswer (sym (write_lost e is)) refl
      by_verdict e clashing is = subst ByAnswer (sym (write_clashing e is)) refl

      go : (o : Option ℕ) → first_of (write_rules v a P m) ≡ o → ByAnswer (write_outcome mirror v a P m)
      go none e = by_verdict e (one_verdict e).0 (one_verdict e).1
      go (some k) e = subst ByAnswer (sym (write_refused k e)) (sym (ap (λ (x : Mark). marked x a.number m) (rules-keep mend k e)))

  write_means : Words m → WriteMeans v a P m
  write_means w = record {
    refuses = write_refused;
    as_read = as_read;
    one_verdict = one_verdict;
    at_lost = write_lost;
    at_clashing = write_clashing;
    at_whole = λ e. write_whole e w;
    at_doubtful = λ e. write_doubtful e w;
    map_by_answer = map_by_answer w;
    whole_runs = whole_runs;
    doubtful_runs = doubtful_runs;
  }

pub writes_mean : WritesMean
writes_mean v b a P bytes m w = write_means v b a P bytes m w
