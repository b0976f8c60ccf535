-- The list, from the maps: the numbers of each, one run behind the other. Assumes nothing.
use mathlib.Core.Path.{◌≡◌, refl, sym, ap, ap₂, ◌∙◌}
use mathlib.Core.Bool.{Bool, true, false, cond}
use mathlib.Core.List.{List, [], ◌∷◌, ◌++◌}
use Prim.Native.Nat.{ℕ, suc, ◌+◌, ◌*◌, ◌<◌, ◌≤◌}
use native.Mathlib.Numerals.{add-one}
use native.Mathlib.Omega.{arith}
use lib.ListN.{length, drop, set, replicate, length-append, length-set, length-replicate}
use lib.Seq.{sets, sets-eq}
use Rattle.bits.specs.Bits.{bit}
use Rattle.bits.proofs.Bits.{bit_zeros}
use Rattle.verdict.specs.Verdict.{Verdict}
use Rattle.history.specs.Answers.{is_whole}
use Rattle.survey.specs.declared.maps.Maps.{Maps}
use Rattle.report.specs.declared.Counts.{Counts}
use Rattle.report.specs.Survey.{chosen, tally, listed, counted, surveyed}
use Rattle.survey.specs.Inner.{maps, Empty, set_below, in_order, AllJudged}
use Rattle.report.proofs.Tallies.{chosen_le, all_counted}

-- ---- one map

-- numbers stored one behind the other, in two runs
sets_append : (a b l : List ℕ) (i : ℕ) → sets l i (a ++ b) ≡ sets (sets l i a) (i + length a) b
sets_append [] b l i = ap (λ (k : ℕ). sets l k b) (omega arith)
sets_append (x ∷ a) b l i = sets_append a b (set l i x) (suc i) ∙ ap (λ (k : ℕ). sets (sets (set l i x) (suc i) a) k b) (omega arith)

-- The first i of n numbers of a map are listed, from an entry on.
pub record Listing (m : List ℕ) (n : ℕ) (old : List ℕ) (at i next : ℕ) (list : List ℕ) : Type 0 where
  pub reached : i ≤ n
  pub room : n ≤ length old
  pub few : at + length (set_below n m) ≤ n
  pub entry : next ≡ at + length (set_below i m)
  pub entries : list ≡ sets old at (set_below i m)
  pub size : length list ≡ length old

module _ (m : List ℕ) (n : ℕ) (old : List ℕ) (at : ℕ) where
  pub listing_none : n ≤ length old → at + length (set_below n m) ≤ n → Listing m n old at 0 at old
  unfolding chosen
  listing_none h k = record { reached = omega arith; room = h; few = k; entry = omega arith; entries = refl; size = refl }

  -- the numbers at and below i
  set_next : (i : ℕ) {b : Bool} → b ≡ bit i m → set_below (i + 1) m ≡ cond b (set_below i m ++ i ∷ []) (set_below i m)
  unfolding chosen
  set_next i e = ap (λ (k : ℕ). set_below k m) (add-one i) ∙ ap (λ (x : Bool). cond x (set_below i m ++ i ∷ []) (set_below i m)) (sym e)

  module _ {i next : ℕ} {list : List ℕ} (v : Listing m n old at i next list) (h : i < n) {r : Bool} (e : r ≡ bit i m) where
    -- where the bit is set, there is an entry for its number
    pub listing_room : r ≡ true → next < n
    listing_room d =
        let l = chosen_le (λ j. bit j m) (i + 1) n (omega arith) in
        let k = ap length (set_next i (sym d ∙ e)) in
        omega (arith, v.few, v.entry, length-append (set_below i m) (i ∷ []))

    pub listing_one : r ≡ true → {k : ℕ} {new : List ℕ} → new ≡ set list next i → k ≡ next + 1 → Listing m n old at (i + 1) k new
    listing_one d el ek =
        let s = set_next i (sym d ∙ e) in
        record {
          reached = omega arith;
          room = v.room;
          few = v.few;
          entry = omega (arith, v.entry, ek, ap length s, length-append (set_below i m) (i ∷ []));
          entries =
              el
              ∙ ap₂ (λ (l : List ℕ) (k : ℕ). set l k i) v.entries v.entry
              ∙ sym (sets_append (set_below i m) (i ∷ []) old at)
              ∙ ap (sets old at) (sym s);
          size = ap length el ∙ length-set list next i ∙ v.size;
        }

    pub listing_same : r ≡ false → {k : ℕ} {new : List ℕ} → new ≡ list → k ≡ next → Listing m n old at (i + 1) k new
    listing_same d el ek =
        let s = set_next i (sym d ∙ e) in
        record {
          reached = omega arith;
          room = v.room;
          few = v.few;
          entry = ek ∙ v.entry ∙ ap (λ (l : List ℕ). at + length l) (sym s);
          entries = el ∙ v.entries ∙ ap (sets old at) (sym s);
          size = ap length el ∙ v.size;
        }

  pub listing_all : {i next : ℕ} {list : List ℕ} → Listing m n old at i next list → n ≤ i → (next ≡ at + length (set_below n m)) × (list ≡ sets old at (set_below n m))
  listing_all {i} v h =
      let le : i ≤ n = v.reached in
      let e : i ≡ n = omega arith in
      (v.entry ∙ ap (λ (k : ℕ). at + length (set_below k m)) e, v.entries ∙ ap (λ (k : ℕ). sets old at (set_below k m)) e)

-- ---- three runs of numbers, each from the entry behind the last

module _ (a b c : List ℕ) where
  pub runs_fit : {room : ℕ} → length (a ++ b ++ c) ≤ room
      → (0 + length a ≤ room) × (0 + length a + length b ≤ room) × (0 + length a + length b + length c ≤ room)
  runs_fit h =
      let e = length-append (a ++ b) c in
      let f = length-append a b in
      (omega arith, omega arith, omega arith)

  pub runs_join : (old : List ℕ) {first second : ℕ} {one two three : List ℕ}
      → first ≡ 0 + length a → one ≡ sets old 0 a → second ≡ first + length b → two ≡ sets one first b → three ≡ sets two second c
      → three ≡ sets old 0 (a ++ b ++ c)
  runs_join old {second = second} ef e1 es e2 e3 =
      let both : second ≡ 0 + length (a ++ b) = omega (arith, ef, es, length-append a b) in
      e3
      ∙ ap₂ (λ (x : List ℕ) (k : ℕ). sets x k c) (e2 ∙ ap₂ (λ (x : List ℕ) (k : ℕ). sets x k b) e1 ef ∙ sym (sets_append a b old 0)) both
      ∙ sym (sets_append (a ++ b) c old 0)

-- ---- the survey, of what was found

-- those that are not whole are listed
length-listed : (w : ℕ → Verdict) (n : ℕ) → length (listed w n) + tally is_whole w n ≡ n
unfolding listed tally
length-listed w n = simp length-append (omega (arith, all_counted w n))

-- arrays of 1,024 words have a bit for each sector
pub empty_maps : (n : ℕ) → n ≤ 65536 → let z : List ℕ = replicate 1024 0 in Empty n (maps z z z)
empty_maps n h =
    let room : n ≤ 64 * length {A = ℕ} (replicate 1024 0) = omega (arith, length-replicate {A = ℕ} 1024 0) in
    record { sized = record { lost = room; clashing = room; doubtful = room }; lost = bit_zeros 1024; clashing = bit_zeros 1024; doubtful = bit_zeros 1024 }

module _ {w : ℕ → Verdict} {n : ℕ} {c : Counts} {m : Maps} (f : AllJudged w n c m) where
  judged_order : in_order n m ≡ listed w n
  unfolding listed
  judged_order = ap₂ (λ (l x : List ℕ). l ++ x) (ap₂ (λ (l x : List ℕ). l ++ x) f.lost f.clashing) f.doubtful

  pub judged_few : length (in_order n m) ≤ n
  judged_few = omega (arith, ap length judged_order, length-listed w n)

  pub judged_listed : (list : List ℕ) {new : List ℕ} → n ≤ length list → new ≡ sets list 0 (in_order n m) → surveyed w n list ≡ (counted c, new)
  judged_listed list room e =
      let k : 0 + length (listed w n) ≡ length (listed w n) = omega arith in
      ap₂ (λ (x : Counts) (l : List ℕ). (counted x, l)) (sym f.counts)
      (sym (e ∙ ap (sets list 0) judged_order ∙ sets-eq (listed w n) list 0 (omega (arith, length-listed w n)) ∙ ap (λ (j : ℕ). listed w n ++ drop j list) k))
