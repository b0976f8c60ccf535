-- The survey, sector by sector: what each verdict adds to the counts and to the maps, the loop and the prepared key. Assumes nothing.
use mathlib.Core.Path.{◌≡◌, refl, sym, ap, subst, ◌∙◌}
use mathlib.Core.Bool.{Bool, true, false, cond}
use mathlib.Core.Logic.{⊎_elim}
use mathlib.Core.List.{List}
use Rattle.std.specs.Prelude.{Result, Ok, Err}
use Prim.Native.Nat.{ℕ, suc, ◌+◌, ◌*◌, ◌/◌, ◌<◌, ◌≤◌}
use native.Mathlib.Numerals.{add-one}
use native.Mathlib.Omega.{arith}
use lib.ListN.{length}
use Rattle.mode.specs.Scheme.{Scheme, dcm, scheme}
use Rattle.mode.specs.Sealing.{Triple, sealed, tweak, Key}
use Rattle.bits.specs.Bits.{bit, mark}
use Rattle.bits.proofs.Bits.{bit-mark_same, bit-mark_other, length-mark}
use Rattle.answers.specs.declared.Found.{Found}
use Rattle.answers.specs.declared.Found.TheVariants as F
use Rattle.answers.specs.declared.Place as D
use Rattle.answers.specs.declared.Refusal.{Refusal}
use Rattle.answers.specs.declared.Refusal.TheVariants as R
use Rattle.answers.specs.Answers.{refusal_number, place_named, judged_number}
use Rattle.answers.specs.Lent.{triple_of}
use Rattle.verdict.specs.Judging.{verdict_number, verdict_outcome}
use Rattle.verdict.specs.Verdict.{Verdict, whole, doubtful, lost, clashing, fits, fits_two, candidate, grade, judge}
use Rattle.answers.proofs.Numbers.{refusal_range, doubt_least, refusal_one}
use Rattle.verdict.proofs.Numbers.{outcome_number}
use Rattle.history.specs.Answers.{is_whole, is_doubtful, is_clashing, is_lost}
use Rattle.history.specs.Volume.{mirror, sector_of}
use Rattle.report.specs.declared.Counts.{Counts}
use Rattle.survey.specs.declared.lent.Images.{Images}
use Rattle.survey.specs.declared.maps.Kind.{Kind}
use Rattle.survey.specs.declared.maps.Kind.TheVariants.{Whole, Doubtful, Clashing, Lost}
use Rattle.survey.specs.declared.maps.Maps.{Maps}
use Rattle.report.specs.Inner.{add_if}
use Rattle.report.specs.Survey.{chosen, numbers, tally, health, counts_of, Report, verdict_at, surveyed}
use Rattle.survey.specs.Inner.{kind_of, verdict_by, counting, maps, marking, Sized, Empty, set_below, AllJudged}
use Rattle.report.proofs.Tallies.{at_or_below, chosen_same, tally_next, tally_le}

-- ---- one sector: the kind that the code's answer tells

-- of sector i, judged with the tweak T
module _ (S : Scheme) {T U : ℕ} (t : Triple) (out : List ℕ) {new : List ℕ} (j : Result Found Refusal) (d : T ≡ U)
    (e : verdict_outcome (judge S T t) out ≡ (judged_number j, new)) where
  told : judged_number j ≡ verdict_number (judge S U t)
  told =
      ap (λ (x : ℕ × List ℕ). x.0) (sym e)
      ∙ outcome_number (judge S T t) out
      ∙ ap (λ (x : ℕ). verdict_number (judge S x t)) d

  pub kind_whole : j ≡ Ok F.Whole → Whole ≡ kind_of (judge S U t)
  kind_whole z = go (judge S U t) (ap judged_number (sym z) ∙ told)
    where
      go : (w : Verdict) → 0 ≡ verdict_number w → Whole ≡ kind_of w
      go (whole P) e = refl
      go (doubtful d P) e = absurd (omega (arith, doubt_least d))
      go lost e = absurd (omega arith)
      go clashing e = absurd (omega arith)

  pub kind_doubtful : {p : D.Place} → j ≡ Ok (F.Doubtful p) → Doubtful ≡ kind_of (judge S U t)
  kind_doubtful {p} z = go (judge S U t) (ap judged_number (sym z) ∙ told)
    where
      go : (w : Verdict) → judged_number (Ok (F.Doubtful p)) ≡ verdict_number w → Doubtful ≡ kind_of w
      go (whole P) e = absurd (omega (arith, doubt_least (place_named p)))
      go (doubtful d P) e = refl
      go lost e = absurd (omega (arith, doubt_least (place_named p)))
      go clashing e = absurd (omega (arith, doubt_least (place_named p)))

  pub kind_lost : {f : Refusal} → j ≡ Err f → f ≡ R.Lost → Lost ≡ kind_of (judge S U t)
  kind_lost z y = go (judge S U t) (ap judged_number (sym (z ∙ ap Err y)) ∙ told)
    where
      go : (w : Verdict) → 6 ≡ verdict_number w → Lost ≡ kind_of w
      go (whole P) e = absurd (omega arith)
      go (doubtful d P) e = absurd (omega (arith, doubt_least d))
      go lost e = refl
      go clashing e = absurd (omega arith)

  -- the one refusal of judging but lost
  pub kind_clashing : {f : Refusal} → j ≡ Err f → (f ≡ R.Lost → ⊥) → Clashing ≡ kind_of (judge S U t)
  kind_clashing {f} z y = go (judge S U t) (ap judged_number (sym z) ∙ told)
    where
      go : (w : Verdict) → refusal_number f ≡ verdict_number w → Clashing ≡ kind_of w
      go (whole P) e = absurd (omega (arith, refusal_range f))
      go (doubtful d P) e = absurd (omega (arith, refusal_range f, doubt_least d))
      go lost e = absurd (y (refusal_one f R.Lost e))
      go clashing e = refl

-- ---- one more sector, by tests of its verdict

-- with number i in the map, if so
abbrev mark_if : Bool → ℕ → List ℕ → List ℕ
mark_if b i m = cond b (mark i true m) m

counting_by : (w : Verdict) (c : Counts) → counting (kind_of w) c ≡ record {
  whole = add_if (is_whole w) c.whole;
  doubtful = add_if (is_doubtful w) c.doubtful;
  clashing = add_if (is_clashing w) c.clashing;
  lost = add_if (is_lost w) c.lost;
  health = c.health;
}
unfolding is_whole is_doubtful is_clashing is_lost
counting_by (whole P) c = ap (λ (k : ℕ). record c { whole = k }) (add-one c.whole)
counting_by (doubtful d P) c = ap (λ (k : ℕ). record c { doubtful = k }) (add-one c.doubtful)
counting_by lost c = ap (λ (k : ℕ). record c { lost = k }) (add-one c.lost)
counting_by clashing c = ap (λ (k : ℕ). record c { clashing = k }) (add-one c.clashing)

marking_by : (w : Verdict) (i : ℕ) (m : Maps)
    → marking (kind_of w) i m ≡ maps (mark_if (is_lost w) i m.lost) (mark_if (is_clashing w) i m.clashing) (mark_if (is_doubtful w) i m.doubtful)
unfolding is_whole is_doubtful is_clashing is_lost
marking_by (whole P) i m = refl
marking_by (doubtful d P) i m = refl
marking_by lost i m = refl
marking_by clashing i m = refl

-- ---- the numbers in a map

-- the map has those of the first i numbers whose verdict passes, and room for n
pub record BitsTell (is : Verdict → Bool) (w : ℕ → Verdict) (n i : ℕ) (m : List ℕ) : Type 0 where
  pub room : n ≤ 64 * length m
  pub below : (j : ℕ) → j < i → bit j m ≡ is (w j)
  pub beyond : (j : ℕ) → i ≤ j → bit j m ≡ false

module _ (is : Verdict → Bool) (w : ℕ → Verdict) (n : ℕ) where
  bits_tell_none : (m : List ℕ) → n ≤ 64 * length m → ((j : ℕ) → bit j m ≡ false) → BitsTell is w n 0 m
  bits_tell_none m room e = record { room = room; below = λ j h. absurd (omega arith); beyond = λ j h. e j }

  bits_tell_next : (i : ℕ) (m : List ℕ) → BitsTell is w n i m → i < n → BitsTell is w n (suc i) (mark_if (is (w i)) i m)
  bits_tell_next i m z h = go (is (w i)) refl
    where
      fits : i / 64 < length m
      fits = let r = z.room in omega arith

      go : (b : Bool) → is (w i) ≡ b → BitsTell is w n (suc i) (mark_if b i m)
      go true e = record {
        room = let r = z.room in omega (arith, length-mark i true m);
        below = λ j k. ⊎_elim (λ l. bit-mark_other j i true m (λ d. omega arith) ∙ z.below j l) (λ d. ap (λ (x : ℕ). bit x (mark i true m)) d ∙ bit-mark_same i true m fits ∙ sym (ap (λ (x : ℕ). is (w x)) d ∙ e)) (at_or_below j i k);
        beyond = λ j k. bit-mark_other j i true m (λ d. omega arith) ∙ z.beyond j (omega arith);
      }
      go false e = record {
        room = z.room;
        below = λ j k. ⊎_elim (z.below j) (λ d. z.beyond j (omega arith) ∙ sym (ap (λ (x : ℕ). is (w x)) d ∙ e)) (at_or_below j i k);
        beyond = λ j k. z.beyond j (omega arith);
      }

  bits_tell_all : (m : List ℕ) → BitsTell is w n n m → set_below n m ≡ numbers is w n
  bits_tell_all m z = chosen_same (λ i. bit i m) (λ i. is (w i)) n z.below

-- ---- judging them all

pub record MapsTell (w : ℕ → Verdict) (n i : ℕ) (m : Maps) : Type 0 where
  pub lost : BitsTell is_lost w n i m.lost
  pub clashing : BitsTell is_clashing w n i m.clashing
  pub doubtful : BitsTell is_doubtful w n i m.doubtful

-- After the first i of n sectors. The counts are no more than i.
pub record Loop (w : ℕ → Verdict) (n i : ℕ) (c : Counts) (m : Maps) : Type 0 where
  pub reached : i ≤ n
  pub count : n ≤ 65536
  pub counts : c ≡ counts_of w i 0
  pub whole_most : c.whole ≤ i
  pub doubtful_most : c.doubtful ≤ i
  pub clashing_most : c.clashing ≤ i
  pub lost_most : c.lost ≤ i
  pub told : MapsTell w n i m
  pub sized : Sized n m

maps_sized : {w : ℕ → Verdict} {n i : ℕ} {m : Maps} → MapsTell w n i m → Sized n m
maps_sized z = record { lost = z.lost.room; clashing = z.clashing.room; doubtful = z.doubtful.room }

module _ (w : ℕ → Verdict) (n : ℕ) where
  -- by what the counts are
  loop_at : (i : ℕ) (c : Counts) (m : Maps) → i ≤ n → n ≤ 65536 → c ≡ counts_of w i 0 → MapsTell w n i m → Loop w n i c m
  loop_at i c m h k e z = record {
    reached = h;
    count = k;
    counts = e;
    whole_most = subst (λ (x : Counts). x.whole ≤ i) (sym e) (tally_le is_whole w i);
    doubtful_most = subst (λ (x : Counts). x.doubtful ≤ i) (sym e) (tally_le is_doubtful w i);
    clashing_most = subst (λ (x : Counts). x.clashing ≤ i) (sym e) (tally_le is_clashing w i);
    lost_most = subst (λ (x : Counts). x.lost ≤ i) (sym e) (tally_le is_lost w i);
    told = z;
    sized = maps_sized z;
  }

  pub loop_none : (m : Maps) → n ≤ 65536 → Empty n m → Loop w n 0 (record { whole = 0; doubtful = 0; clashing = 0; lost = 0; health = 0 }) m
  unfolding tally chosen
  loop_none m h e = loop_at 0 _ m (omega arith) h refl (record {
    lost = bits_tell_none is_lost w n m.lost e.sized.lost e.lost;
    clashing = bits_tell_none is_clashing w n m.clashing e.sized.clashing e.clashing;
    doubtful = bits_tell_none is_doubtful w n m.doubtful e.sized.doubtful e.doubtful;
  })

  counts_next : (i : ℕ) {c : Counts} → c ≡ counts_of w i 0 → counting (kind_of (w i)) c ≡ counts_of w (suc i) 0
  counts_next i e =
      ap (counting (kind_of (w i))) e
      ∙ counting_by (w i) (counts_of w i 0)
      ∙ (λ j. record {
        whole = sym (tally_next is_whole w i) j;
        doubtful = sym (tally_next is_doubtful w i) j;
        clashing = sym (tally_next is_clashing w i) j;
        lost = sym (tally_next is_lost w i) j;
        health = 0;
      })

  maps_next : {i : ℕ} {m : Maps} → MapsTell w n i m → i < n → MapsTell w n (suc i) (marking (kind_of (w i)) i m)
  maps_next {i} {m} z h = subst (MapsTell w n (suc i)) (sym (marking_by (w i) i m)) (record {
    lost = bits_tell_next is_lost w n i m.lost z.lost h;
    clashing = bits_tell_next is_clashing w n i m.clashing z.clashing h;
    doubtful = bits_tell_next is_doubtful w n i m.doubtful z.doubtful h;
  })

  -- a turn, by what its three calls ensure
  pub loop_next : {i : ℕ} {c d : Counts} {m new : Maps} {k : Kind} → Loop w n i c m → i < n
      → k ≡ kind_of (w i) → d ≡ counting k c → new ≡ marking k i m → Loop w n (i + 1) d new
  loop_next {i} {c} {d} {m} {new} v lt e f g =
      subst (λ (k : ℕ). Loop w n k d new) (sym (add-one i))
      (loop_at (suc i) d new (omega arith) v.count (f ∙ ap (λ (k : Kind). counting k c) e ∙ counts_next i v.counts)
      (subst (MapsTell w n (suc i)) (sym (g ∙ ap (λ (k : Kind). marking k i m) e)) (maps_next v.told lt)))

  -- all of them, and their health
  pub loop_all : {i h : ℕ} {c : Counts} {m : Maps} → Loop w n i c m → n ≤ i → h ≡ health c.whole n
      → AllJudged w n (record { whole = c.whole; doubtful = c.doubtful; clashing = c.clashing; lost = c.lost; health = h }) m
  loop_all {i} {h} {c} {m} v ge d =
      let le : i ≤ n = v.reached in
      let e : i ≡ n = omega arith in
      let z : MapsTell w n n m = subst (λ (k : ℕ). MapsTell w n k m) e v.told in
      record {
        counts =
            ap (λ (k : ℕ). record { whole = c.whole; doubtful = c.doubtful; clashing = c.clashing; lost = c.lost; health = k }) d
            ∙ ap (λ (x : Counts). record { whole = x.whole; doubtful = x.doubtful; clashing = x.clashing; lost = x.lost; health = health x.whole n })
            (v.counts ∙ ap (λ (k : ℕ). counts_of w k 0) e);
        sized = v.sized;
        lost = bits_tell_all is_lost w n m.lost z.lost;
        clashing = bits_tell_all is_clashing w n m.clashing z.clashing;
        doubtful = bits_tell_all is_doubtful w n m.doubtful z.doubtful;
      }

-- ---- the prepared key

pub survey_keyed : (k : Key) {S R : Scheme} → S ≡ R → R ≡ scheme k → (volume s n : ℕ) (v : Triple) (list : List ℕ) {a : Report × List ℕ}
    → surveyed (λ i. judge S (tweak volume i) (sector_of s i v)) n list ≡ a → surveyed (verdict_at (mirror k volume) s v) n list ≡ a
unfolding judge grade fits_two fits candidate mirror sealed scheme dcm
survey_keyed k lent prepared volume s n v list d = sym (ap (λ (U : Scheme). surveyed (λ i. judge U (tweak volume i) (sector_of s i v)) n list) (lent ∙ prepared)) ∙ d
