-- The survey of a volume (document 01, "A volume", with change requests S-1 and S-2): what it refuses, counts and lists. Assumes nothing:
-- these are definitions.
-- `SurveyFacts`, at the end, states what is proved of them, as `survey_facts`.
use Rattle.std.specs.Prelude.{◌≡◌, ◌⊎◌, ◌↔◌, Bool, true, false, cond, ℕ, zero, suc, ◌+◌, ◌*◌, ◌/◌, ◌<◌, ◌≤◌, length, get_or, drop, Result, Ok, Err}
use mathlib.Core.List.{List, [], ◌∷◌, ◌++◌, Memᴰ}
use Rattle.std.proofs.Math.Option.{Option, none, some}
use Rattle.mode.specs.Sealing.{Triple}
use Rattle.mode.specs.Scheme.{Place, is_key, is_size, Scheme}
use Rattle.answers.specs.declared.Refusal.{Refusal}
use Rattle.answers.specs.Answers.{refusal_number}
use Rattle.answers.specs.Rules.{first_of, settle_by, Volume, is_shape, is_zero_hash, survey_rules}
use Rattle.verdict.specs.Verdict.{Verdict, whole, doubtful, lost, clashing, Means, judge}
use Rattle.report.specs.declared.Counts.{Counts}
use Rattle.history.specs.Answers.{is_whole, is_doubtful, is_clashing, is_lost}
use Rattle.history.specs.HistoryFrom.{AnyBytes}
use Rattle.history.specs.Machine.{Held, gone, kept, start}
use Rattle.history.specs.Power.{Event, AllAllowed, run, hold}
use Rattle.history.specs.Volume.{sector_of, mirror}
use Rattle.history.specs.History.{own, at}
use Rattle.history.specs.Number.{mirror_before}

-- ---- counts and the list, from the verdict on each sector

-- the numbers below n that pass a test, in rising order
unfoldable pub chosen : (ℕ → Bool) → ℕ → List ℕ
chosen p zero = []
chosen p (suc n) = cond (p n) (chosen p n ++ n ∷ []) (chosen p n)

-- those whose verdict passes a test
abbrev pub numbers : {A : Type 0} → (A → Bool) → (ℕ → A) → ℕ → List ℕ
numbers is w n = chosen (λ i. is (w i)) n

-- how many they are
unfoldable pub tally : {A : Type 0} → (A → Bool) → (ℕ → A) → ℕ → ℕ
tally is w n = length (numbers is w n)

-- in repair order: the lost, then the clashing, then the doubtful sectors
unfoldable pub listed : (ℕ → Verdict) → ℕ → List ℕ
listed w n = numbers is_lost w n ++ numbers is_clashing w n ++ numbers is_doubtful w n

-- of n sectors: the whole ones in thousandths, rounded down
unfoldable pub health : ℕ → ℕ → ℕ
health w n = w * 1000 / n

-- the counts of the first n sectors, with this health
abbrev pub counts_of : (ℕ → Verdict) → ℕ → ℕ → Counts
counts_of w n h = record {
  whole = tally is_whole w n;
  doubtful = tally is_doubtful w n;
  clashing = tally is_clashing w n;
  lost = tally is_lost w n;
  health = h;
}

-- the lent list afterwards: the entries behind are untouched
abbrev pub written : (ℕ → Verdict) → ℕ → List ℕ → List ℕ
written w n list = listed w n ++ drop (length (listed w n)) list

-- ---- the call

-- what it answers: the number of a refusal, or the five numbers
pub data Report : Type 0 where
  refused : ℕ → Report
  counted : Counts → Report

abbrev pub report_of : Result Counts Refusal → Report
report_of (Ok c) = counted c
report_of (Err r) = refused (refusal_number r)

-- the refusal of a survey of the images v with a list of this length, if it is refused
abbrev pub survey_refusal : Triple → Volume → ℕ → Option ℕ
survey_refusal v vol room = first_of (survey_rules vol.key vol.size vol.count (is_shape vol.size vol.count v) room)

-- the verdict on sector i of the images v
abbrev pub verdict_at : Scheme → ℕ → Triple → ℕ → Verdict
verdict_at S s v i = judge S i (sector_of s i v)

-- what a survey that is not refused answers, and the list afterwards
abbrev pub surveyed : (ℕ → Verdict) → ℕ → List ℕ → Report × List ℕ
surveyed w n list = (counted (counts_of w n (health (tally is_whole w n) n)), written w n list)

-- a refusal leaves the list as it was
unfoldable pub survey_outcome : Triple → Volume → List ℕ → Report × List ℕ
survey_outcome v vol list =
    settle_by refused (survey_refusal v vol (length list)) (surveyed (verdict_at (own mirror vol) vol.size v) vol.count list) list

-- ---- the same by fitting (document 01, "The verdict"), without judging

-- sector i of the images v, under the volume's key and number and its address i
module _ (vol : Volume) (v : Triple) where
  abbrev pub Fitting : Verdict → ℕ → Type 0
  Fitting w i = Means vol.size (own mirror vol) i (at vol v i) w

  abbrev pub WholeAt : ℕ → Type 0
  WholeAt i = (P : List ℕ) × Fitting (whole P) i

  abbrev pub DoubtfulAt : ℕ → Type 0
  DoubtfulAt i = (d : Place) × (P : List ℕ) × Fitting (doubtful d P) i

  abbrev pub ClashingAt : ℕ → Type 0
  ClashingAt i = Fitting clashing i

  abbrev pub LostAt : ℕ → Type 0
  LostAt i = Fitting lost i

-- the kinds in repair order: the lower, the graver
abbrev pub rank : Verdict → ℕ
rank lost = 0
rank clashing = 1
rank (doubtful d P) = 2
rank (whole P) = 3

-- sector i stands before sector j in repair order: its kind is graver, or the same and its number lower
pub record Before (vol : Volume) (v : Triple) (i j : ℕ) : Type 0 where
  pub first : Verdict
  pub second : Verdict
  pub first_fits : Fitting vol v first i
  pub second_fits : Fitting vol v second j
  pub graver : (rank first < rank second) ⊎ ((rank first ≡ rank second) × (i < j))

-- of two entries the earlier one has the relation R to the later
abbrev pub Sorted : (ℕ → ℕ → Type 0) → List ℕ → Type 0
Sorted R l = (i j : ℕ) → i < j → j < length l → R (get_or l i 0) (get_or l j 0)

-- l has the numbers below n that have the property P, and no others, in the order R
pub record Lists (R : ℕ → ℕ → Type 0) (P : ℕ → Type 0) (n : ℕ) (l : List ℕ) : Type 0 where
  pub exactly : (i : ℕ) → Memᴰ i l ↔ ((i < n) × P i)
  pub sorted : Sorted R l

-- m of the numbers below n have it: here they are, rising
abbrev pub Many : (ℕ → Type 0) → ℕ → ℕ → Type 0
Many P n m = (l : List ℕ) × Lists ◌<◌ P n l × (length l ≡ m)

-- what the counts c, and the list `after` of a list that was `before`, say of the sectors of the images v
pub record ByFitting (vol : Volume) (v : Triple) (before : List ℕ) (c : Counts) (after : List ℕ) : Type 0 where
  pub whole_count : Many (WholeAt vol v) vol.count c.whole
  pub doubtful_count : Many (DoubtfulAt vol v) vol.count c.doubtful
  pub clashing_count : Many (ClashingAt vol v) vol.count c.clashing
  pub lost_count : Many (LostAt vol v) vol.count c.lost
  pub all_counted : c.whole + c.doubtful + c.clashing + c.lost ≡ vol.count
  -- health: at most 1,000, and 1,000 exactly if all sectors are whole
  pub rounded_down : c.health ≡ c.whole * 1000 / vol.count
  pub health_most : c.health ≤ 1000
  pub health_full : (c.health ≡ 1000) ↔ ((i : ℕ) → i < vol.count → WholeAt vol v i)
  -- the front of the list: the lost, then the clashing, then the doubtful sectors that are counted above (.0 of a count is the list of the
  -- numbers that it counts)
  pub front : List ℕ
  pub by_kind : front ≡ lost_count.0 ++ clashing_count.0 ++ doubtful_count.0
  -- so it has the numbers of the sectors that are not whole, in repair order, no two of them equal
  pub not_whole : Lists (Before vol v) (λ i. WholeAt vol v i → ⊥) vol.count front
  pub once : Sorted (λ i j. i ≡ j → ⊥) front
  -- the entries behind
  pub behind : after ≡ front ++ drop (length front) before

-- ---- what is proved

unfoldable pub is_kept : Held → Bool
is_kept gone = false
is_kept (kept P d) = true

pub record SurveyFacts : Type 1 where
  -- no two rising lists have the same numbers, so a count is one number,
  pub lists_once : (P : ℕ → Type 0) (n : ℕ) (l m : List ℕ) → Lists ◌<◌ P n l → Lists ◌<◌ P n m → l ≡ m
  -- and no two lists in repair order
  pub repair_once : (v : Triple) → AnyBytes v → (vol : Volume) → is_key vol.key ≡ true → is_size vol.size ≡ true → is_shape vol.size vol.count v ≡ true
      → (P : ℕ → Type 0) (l m : List ℕ) → Lists (Before vol v) P vol.count l → Lists (Before vol v) P vol.count m → l ≡ m
  -- with a key, a size, a shape and a list that are right a survey is not refused
  pub accepts : (v : Triple) (vol : Volume) (room : ℕ) → is_key vol.key ≡ true → is_zero_hash vol.key ≡ false → is_size vol.size ≡ true → is_shape vol.size vol.count v ≡ true
      → vol.count ≤ room → survey_refusal v vol room ≡ none
  -- a refused survey leaves the list; any other answers with the counts of its verdicts
  pub refuses : (v : Triple) (vol : Volume) (list : List ℕ) (m : ℕ) → survey_refusal v vol (length list) ≡ some m
      → survey_outcome v vol list ≡ (refused m, list)
  pub answers : (v : Triple) (vol : Volume) (list : List ℕ) → survey_refusal v vol (length list) ≡ none
      → survey_outcome v vol list ≡ surveyed (verdict_at (own mirror vol) vol.size v) vol.count list
  -- a volume with number 0 is surveyed as before there were numbers (change request S-2)
  pub number_0 : (v : Triple) (vol : Volume) (list : List ℕ) → vol.number ≡ 0
      → survey_outcome v vol list
      ≡ settle_by refused (survey_refusal v vol (length list)) (surveyed (verdict_at (mirror_before vol.key) vol.size v) vol.count list) list
  -- these are the counts, and the list, by fitting
  pub by_fitting : (v : Triple) → AnyBytes v → (vol : Volume) (list : List ℕ) (c : Counts) (after : List ℕ)
      → survey_outcome v vol list ≡ (counted c, after) → ByFitting vol v list c after
  -- after every list of events, from images of any bytes and all sectors gone: no sector that the machine keeps is lost,
  pub kept_found : (vol : Volume) (v : Triple) → AnyBytes v → (es : List Event) → AllAllowed mirror vol v es
      → (i : ℕ) → i < vol.count → is_kept (hold mirror vol v start es i) ≡ true
      → LostAt vol (run mirror vol v es) i → ⊥
  -- so no more are kept than a survey counts as whole, doubtful or clashing
  pub kept_counted : (vol : Volume) (v : Triple) → AnyBytes v → (es : List Event) → AllAllowed mirror vol v es
      → (list : List ℕ) (c : Counts) (after : List ℕ)
      → survey_outcome (run mirror vol v es) vol list ≡ (counted c, after)
      → tally is_kept (hold mirror vol v start es) vol.count ≤ c.whole + c.doubtful + c.clashing
