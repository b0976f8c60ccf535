-- What a call's mark makes of the map, and which answers leave it alone. Assumes nothing.
use mathlib.Core.Path.{◌≡◌, refl, sym, ◌∙◌, ap, subst}
use mathlib.Core.Logic.{◌⊎◌, inl, inr}
use mathlib.Core.Bool.{Bool, true, false, not, cond}
use mathlib.Core.List.{List, [], ◌∷◌, ◌++◌}
use mathlib.Core.Option.{Option, none, some}
use Prim.Native.Nat.{ℕ, ◌/◌, ◌<◌}
use native.Mathlib.Decide.{ℕ_discrete}
use native.Mathlib.Omega.{arith}
use lib.Dec.{eqb, leb}
use lib.ListN.{length}
use borrow.Author.Tests.{eq-eqb, ne_eqb, eqb-true, not-false, leb-false}
use Rattle.bits.specs.Bits.{Words, bit, mark}
use Rattle.bits.proofs.Bits.{bit-mark_same, bit-mark_other, length-mark, words_mark}
use Rattle.mode.specs.Sealing.{Triple}
use Rattle.mode.specs.Scheme.{Place, local, tag, remote, Scheme}
use Rattle.verdict.specs.Judging.{verdict_doubt}
use Rattle.verdict.specs.Verdict.{Verdict, whole, doubtful, lost, clashing, judge}
use Rattle.answers.specs.declared.Refusal.{Refusal}
use Rattle.answers.specs.Answers.{doubt_number, found_number, refusal_number}
use Rattle.answers.proofs.Numbers.{refusal_range}
use Rattle.answers.specs.Rules.{Rule, rule, first_of, Args, Volume, is_shape, map_words, volume_rules, map_rules, number_rules}
use Rattle.answers.proofs.Rules.{cond_none, only_rule, none_right}
use Rattle.history.specs.Answers.{answer_number}
use Rattle.history.specs.Volume.{Call, blank, first, second, third, mend, read, Schemes, lengths, judge_rules, late, result, sector, sealing, mirror}
use Rattle.history.proofs.Options.{none_some}
use Rattle.suspects.specs.declared.Mark.{Mark}
use Rattle.suspects.specs.declared.Mark.TheVariants.{Clears, Sets, Keeps}
use Rattle.suspects.specs.Marks.{is_finished, finishing, lost_or_clashing, refusing, marks, marked, map_refusal, first_rules}
use Rattle.suspects.specs.Calls.{turned, call_order, Judges}

-- ---- the map

-- the bit is within the map, if it is marked
abbrev pub Room : Mark → ℕ → ℕ → Type 0
Room Clears i w = i / 64 < w
Room Sets i w = i / 64 < w
Room Keeps i w = Unit {0}

pub length_marked : (x : Mark) (i : ℕ) (m : List ℕ) → length (marked x i m) ≡ length m
length_marked Clears i m = length-mark i _ m
length_marked Sets i m = length-mark i _ m
length_marked Keeps i m = refl

pub words_marked : (x : Mark) (i : ℕ) (m : List ℕ) → Words m → Words (marked x i m)
words_marked Clears i m h = words_mark i _ m h
words_marked Sets i m h = words_mark i _ m h
words_marked Keeps i m h = h

bit-mark : (j i : ℕ) (b : Bool) (m : List ℕ) → i / 64 < length m → bit j (mark i b m) ≡ cond (eqb j i) b (bit j m)
bit-mark j i b m h = go (ℕ_discrete j i)
  where
    go : Dec (j ≡ i) → bit j (mark i b m) ≡ cond (eqb j i) b (bit j m)
    go (yes e) =
        ap (λ (q : ℕ). bit q (mark i b m)) e ∙ bit-mark_same i b m h
        ∙ sym (ap (λ (x : Bool). cond x b (bit j m)) (eq-eqb j i e))
    go (no e) = bit-mark_other j i b m e ∙ sym (ap (λ (x : Bool). cond x b (bit j m)) (ne_eqb j i e))

pub bit-marked : (x : Mark) (j i : ℕ) (m : List ℕ) → Room x i (length m) → bit j (marked x i m) ≡ cond (eqb j i) (turned x (bit j m)) (bit j m)
bit-marked Clears j i m h = bit-mark j i false m h
bit-marked Sets j i m h = bit-mark j i true m h
bit-marked Keeps j i m h = go (eqb j i)
  where
    go : (b : Bool) → bit j m ≡ cond b (bit j m) (bit j m)
    go true = refl
    go false = refl

-- ---- the map's length, and room in it

-- the bit of a sector below n is within the words that n needs
below_words : (n i : ℕ) → i < n → i / 64 < map_words n
unfolding map_words
below_words n i h = omega arith

within : (x : Mark) (i w : ℕ) → i / 64 < w → Room x i w
within Clears i w h = h
within Sets i w h = h
within Keeps i w h = tt

module _ (v : Triple) (vol : Volume) where
  -- 1, 14, 2 and 8
  abbrev pub volume_only : List Rule
  volume_only = volume_rules vol.key vol.size (is_shape vol.size vol.count v)

  -- 13 is not refused where the map has as many words as n needs
  pub right_words : (m : List ℕ) (ys : List Rule) → length m ≡ map_words vol.count
      → first_of (volume_only ++ (map_rules vol.count (length m) ++ ys)) ≡ first_of (volume_only ++ ys)
  right_words m ys e = ap (λ (b : Bool). first_of (volume_only ++ (rule 13 (not b) ∷ ys))) (eq-eqb (length m) (map_words vol.count) e)

  -- and where it is not, nor any before it, there are so many
  pub words_right : (m : List ℕ) (ys : List Rule) → first_of (volume_only ++ (map_rules vol.count (length m) ++ ys)) ≡ none → (length m ≡ map_words vol.count) × (first_of ys ≡ none)
  words_right m ys e =
      let right : Bool = eqb (length m) (map_words vol.count) in
      let u = cond_none (not right) 13 (first_of ys) (none_right (map_rules vol.count (length m) ++ ys) volume_only e) in
      (eqb-true (length m) (map_words vol.count) (not-false right u.0), u.1)

-- 9
abbrev pub nine : Args → List Rule
nine a = number_rules a.volume.count a.number

module _ (v : Triple) (a : Args) (m : List ℕ) where
  -- past `map_refusal` the map has so many words, and the sector is one of the n
  pub map_passed : map_refusal v a m ≡ none → (length m ≡ map_words a.volume.count) × (a.number < a.volume.count)
  map_passed e =
      let u = words_right v a.volume m (nine a) e in
      (u.0, leb-false a.volume.count a.number (only_rule (leb a.volume.count a.number) 9 u.1))

  -- so the sector's bit is within the map
  pub in_map : map_refusal v a m ≡ none → a.number / 64 < length m
  in_map e =
      let p = map_passed e in
      subst (λ (w : ℕ). a.number / 64 < w) (sym p.0) (below_words a.volume.count a.number p.1)

  pub room : (x : Mark) → map_refusal v a m ≡ none → Room x a.number (length m)
  room x e = within x a.number (length m) (in_map e)

-- ---- the numbers of a list of rules

-- the number of every rule has the property
abbrev pub Every : (ℕ → Type 0) → List Rule → Type 0
Every P [] = Unit {0}
Every P (r ∷ rs) = P r.number × Every P rs

module _ (P : ℕ → Type 0) where
  pub every_first : (rs : List Rule) → Every P rs → (k : ℕ) → first_of rs ≡ some k → P k
  every_first [] q k e = absurd (none_some e)
  every_first (r ∷ rs) q k e = go r.condition (every_first rs q.1 k) e
    where
      go : (b : Bool) → (first_of rs ≡ some k → P k) → cond b (some r.number) (first_of rs) ≡ some k → P k
      go true h z = let n : r.number ≡ k = cc in subst P n q.0
      go false h z = h z

  pub every_both : (xs ys : List Rule) → Every P xs → Every P ys → Every P (xs ++ ys)
  every_both [] ys p q = q
  every_both (x ∷ xs) ys p q = (p.0, every_both xs ys p.1 q)

  -- Of the rules of `history`, but not there: an edit of `lengths` or `late` would be refused for the shape of a list before the fact that it
  -- breaks.
  every_length : (a : Args) (c : Call) → P 3 → Every P (lengths a c)
  every_length a blank three = tt
  every_length a (first Q) three = (three, tt)
  every_length a (second Q) three = (three, tt)
  every_length a (third Q) three = (three, tt)
  every_length a mend three = tt
  every_length a (read o) three = (three, tt)

  every_judged : (w : Verdict) → P 6 → P 7 → Every P (judge_rules w)
  every_judged (whole Q) six seven = tt
  every_judged (doubtful d Q) six seven = tt
  every_judged lost six seven = (six, tt)
  every_judged clashing six seven = (seven, tt)

  every_late : (S : Scheme) (i : ℕ) (t : Triple) (c : Call) → P 6 → P 7 → P 10 → Every P (late S i t c)
  every_late S i t blank six seven ten = tt
  every_late S i t (first Q) six seven ten = (ten, tt)
  every_late S i t (second Q) six seven ten = (ten, tt)
  every_late S i t (third Q) six seven ten = (ten, tt)
  every_late S i t mend six seven ten = every_judged (judge S i t) six seven
  every_late S i t (read o) six seven ten = every_judged (judge S i t) six seven

  -- what a call refuses behind 9: 3, and at last 6 and 7, or 10
  pub every_own : (seals : Schemes) (v : Triple) (a : Args) (c : Call) → P 3 → P 6 → P 7 → P 10
      → Every P (lengths a c ++ late (sealing seals a) a.number (sector v a) c)
  every_own seals v a c three six seven ten =
      let last : List Rule = late (sealing seals a) a.number (sector v a) c in
      every_both (lengths a c) last (every_length a c three) (every_late (sealing seals a) a.number (sector v a) c six seven ten)

every_so : (P Q : ℕ → Type 0) → ((k : ℕ) → P k → Q k) → (rs : List Rule) → Every P rs → Every Q rs
every_so P Q f [] h = tt
every_so P Q f (r ∷ rs) h = (f r.number h.0, every_so P Q f rs h.1)

-- ---- the numbers that mark it

-- 6 and 7 of a read or a mend
pub lost_or_clashing_sets : (c : Call) → Judges c → (marks c 6 ≡ Sets) × (marks c 7 ≡ Sets)
unfolding is_finished lost_or_clashing
lost_or_clashing_sets c (inl e) = subst (λ (x : Call). (marks x 6 ≡ Sets) × (marks x 7 ≡ Sets)) (sym e) (refl, refl)
lost_or_clashing_sets c (inr (o, e)) = subst (λ (x : Call). (marks x 6 ≡ Sets) × (marks x 7 ≡ Sets)) (sym e) (refl, refl)

-- ---- the numbers that leave the map alone

refusing-marks : (c : Call) (k : ℕ) → is_finished k ≡ false → marks c k ≡ refusing c k
refusing-marks c k e = ap (λ (b : Bool). cond b (finishing c k) (refusing c k)) e

-- neither finished nor lost or clashing
abbrev Quiet : ℕ → Type 0
Quiet k = (is_finished k ≡ false) × (lost_or_clashing k ≡ Keeps)

quiet_keeps : (c : Call) (k : ℕ) → Quiet k → marks c k ≡ Keeps
quiet_keeps c k q = refusing-marks c k q.0 ∙ go c
  where
    go : (c : Call) → refusing c k ≡ Keeps
    go blank = refl
    go (first P) = refl
    go (second P) = refl
    go (third P) = refl
    go mend = q.1
    go (read o) = q.1

-- 1, 14, 2, 8, 13 and 9
before_quiet : (v : Triple) (a : Args) (m : List ℕ) → Every Quiet (first_rules v a m)
unfolding is_finished lost_or_clashing
before_quiet v a m = ((refl, refl), ((refl, refl), ((refl, refl), ((refl, refl), ((refl, refl), ((refl, refl), tt))))))

-- 3 and 10
own_quiet : Quiet 3 × Quiet 10
unfolding is_finished lost_or_clashing
own_quiet = ((refl, refl), (refl, refl))

-- ---- a refusal, whichever it is

pub before_keeps : (v : Triple) (a : Args) (m : List ℕ) (c : Call) (k : ℕ) → map_refusal v a m ≡ some k → marks c k ≡ Keeps
before_keeps v a m c k e = quiet_keeps c k (every_first Quiet (first_rules v a m) (before_quiet v a m) k e)

-- a refusal keeps the map, or it is one of these
abbrev pub Ends : Call → ℕ → Type 0
Ends c k = (marks c k ≡ Keeps) ⊎ (Judges c × ((k ≡ 6) ⊎ (k ≡ 7)))

-- 6 and 7, which only a read or a mend marks
judged-ends : (c : Call) → Ends c 6 × Ends c 7
unfolding is_finished
judged-ends blank = (inl refl, inl refl)
judged-ends (first P) = (inl refl, inl refl)
judged-ends (second P) = (inl refl, inl refl)
judged-ends (third P) = (inl refl, inl refl)
judged-ends mend = (inr (inl refl, inl refl), inr (inl refl, inr refl))
judged-ends (read o) = (inr (inr (o, refl), inl refl), inr (inr (o, refl), inr refl))

pub refused_ends : (v : Triple) (a : Args) (c : Call) (m : List ℕ) (k : ℕ) → first_of (call_order v a c m) ≡ some k → Ends c k
refused_ends v a c m k e =
    let own : List Rule = lengths a c ++ late (sealing mirror a) a.number (sector v a) c in
    let quiet : (k : ℕ) → Quiet k → Ends c k = λ k q. inl (quiet_keeps c k q) in
    every_first (Ends c) (call_order v a c m)
    (every_both (Ends c) (first_rules v a m) own (every_so Quiet (Ends c) quiet (first_rules v a m) (before_quiet v a m))
    (every_own (Ends c) mirror v a c (quiet 3 own_quiet.0) (judged-ends c).0 (judged-ends c).1 (quiet 10 own_quiet.1)))
    k e

pub others_keep : (c : Call) (k : ℕ) → (Judges c → (k ≡ 6 → ⊥) × (k ≡ 7 → ⊥)) → Ends c k → marks c k ≡ Keeps
others_keep c k n (inl h) = h
others_keep c k n (inr (j, inl e)) = absurd ((n j).0 e)
others_keep c k n (inr (j, inr e)) = absurd ((n j).1 e)

-- no refusal clears
pub keeps_or_sets : (c : Call) (k : ℕ) → Ends c k → (marks c k ≡ Keeps) ⊎ (marks c k ≡ Sets)
keeps_or_sets c k (inl h) = inl h
keeps_or_sets c k (inr (j, inl e)) = inr (ap (marks c) e ∙ (lost_or_clashing_sets c j).0)
keeps_or_sets c k (inr (j, inr e)) = inr (ap (marks c) e ∙ (lost_or_clashing_sets c j).1)

-- ---- a call that no rule turns away

-- no refusal is the number of a finished call
pub refusal_apart : (f : Refusal) → is_finished (refusal_number f) ≡ false
unfolding is_finished
refusal_apart f =
    let r = refusal_range f in
    let k : ℕ = refusal_number f in
    simp (ne_eqb k 0 (λ (e : k ≡ 0). omega arith), ne_eqb k 0x81 (λ (e : k ≡ 0x81). omega arith), ne_eqb k 0x82 (λ (e : k ≡ 0x82). omega arith), ne_eqb k 0x83 (λ (e : k ≡ 0x83). omega arith))

pub found_finished : (d : Option Place) → is_finished (found_number d) ≡ true
unfolding is_finished
found_finished none = refl
found_finished (some local) = refl
found_finished (some tag) = refl
found_finished (some remote) = refl

pub result_finished : (S : Scheme) (i : ℕ) (t : Triple) (c : Call) → is_finished (answer_number (result S i t c)) ≡ true
unfolding is_finished
result_finished S i t blank = refl
result_finished S i t (first P) = refl
result_finished S i t (second P) = refl
result_finished S i t (third P) = refl
result_finished S i t mend = found_finished (verdict_doubt (judge S i t))
result_finished S i t (read o) = found_finished (verdict_doubt (judge S i t))

-- a read that finds a doubt sets the bit, and a mend that does clears it
pub doubt_read : (o : ℕ) (d : Place) → marks (read o) (doubt_number d) ≡ Sets
unfolding is_finished
doubt_read o local = refl
doubt_read o tag = refl
doubt_read o remote = refl

pub doubt_mended : (d : Place) → marks mend (doubt_number d) ≡ Clears
unfolding is_finished
doubt_mended local = refl
doubt_mended tag = refl
doubt_mended remote = refl
