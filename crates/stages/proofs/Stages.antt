-- The stages' outcomes from what the code has worked out. Assumes nothing.
use mathlib.Core.Path.{◌≡◌, refl, ap, sym, ◌∙◌}
use mathlib.Core.Bool.{Bool, true, false, not, ◌&&◌}
use mathlib.Core.List.{List, [], ◌∷◌}
use Prim.Native.Nat.{ℕ}
use Rattle.block.specs.Bytes.{part, patch, same}
use Rattle.block.proofs.Lists.{and_both}
use Rattle.fips197.specs.Aes.{cipher_number}
use Rattle.hash.specs.Powers.{key_of}
use Rattle.mode.specs.Scheme.{Place, local, tag, remote, on, wide, Scheme}
use Rattle.mode.specs.Sealing.{Triple, tag_block, triple}
use Rattle.answers.specs.declared.Found.{Found}
use Rattle.answers.specs.declared.Found.TheVariants as F
use Rattle.answers.specs.declared.Place as D
use Rattle.answers.specs.declared.Refusal.{Refusal}
use Rattle.answers.specs.Answers.{refusal_number, finding_number}
use Rattle.answers.specs.Rules.{rule, first_of, settle}
use Rattle.mode.specs.Prepared.{scheme_of}
use Rattle.verdict.specs.Judging.{verdict_outcome}
use Rattle.verdict.specs.Verdict.{Verdict, fits, judge}
use Rattle.history.specs.Answers.{done, is_whole, answer_number}
use Rattle.history.specs.Volume.{Call, first, second, third, sector_of, store, late, writes, result}
use Rattle.images.proofs.Sealed.{coded, coded_fits}
use Rattle.stages.specs.Inner.{one, seal_into, late_outcome}
use Rattle.stages.proofs.Verdicts.{found_whole, found_doubtful, found_refused, refused_not_whole}
use Rattle.stages.proofs.Writes.{one_written}

-- ---- a stage

and_first : (a b : Bool) → a ≡ false → (a && b) ≡ false
and_first a b e = ap (λ (x : Bool). x && b) e

and_second : (a b : Bool) → b ≡ false → (a && b) ≡ false
and_second true b e = e
and_second false b e = refl

module _ (S : Scheme) (T s i : ℕ) (P : List ℕ) (v : Triple) where
  abbrev t : Triple
  t = sector_of s i v

  -- the call c is a stage: it writes P to the place q, and is refused with 10 unless x holds
  record Stage (c : Call) (q : Place) (x : Bool) : Type 0 where
    refuses : late S T t c ≡ rule 10 (not x) ∷ []
    puts : writes s S T t c ≡ record { plain = P; places = one q }
    answers : result S T t c ≡ done

  first_is : Stage (first P) local (is_whole (judge S T t))
  first_is = record { refuses = refl; puts = refl; answers = refl }

  second_is : Stage (second P) tag (fits S T t local P)
  second_is = record { refuses = refl; puts = refl; answers = refl }

  third_is : Stage (third P) remote (fits S T t local P && fits S T t tag P)
  third_is = record { refuses = refl; puts = refl; answers = refl }

  stage_outcome : {c : Call} {q : Place} {x : Bool} → Stage c q x → {b : Bool} → x ≡ b → late_outcome S T s i v c ≡ settle (first_of (rule 10 (not b) ∷ [])) (0, seal_into S T s i P (one q) v) v
  unfolding late_outcome
  stage_outcome {q = q} z e =
      (λ j. settle (first_of (z.refuses j)) (answer_number (z.answers j), seal_into S T s i (z.puts j).plain (z.puts j).places v) v)
      ∙ ap (λ (b : Bool). settle (first_of (rule 10 (not b) ∷ [])) (0, seal_into S T s i P (one q) v) v) e

-- with a prepared key
module _ (w p : List ℕ) (T' s i : ℕ) (P l g r : List ℕ) where
  abbrev S' : Scheme
  S' = scheme_of w p

  abbrev v' : Triple
  v' = triple l g r

  stage_done : {c : Call} {q : Place} {x : Bool} → Stage S' T' s i P v' c q x → x ≡ true → {k : ℕ} → k ≡ tag_block (cipher_number w) (key_of p) T' P
      → {o : List ℕ} → o ≡ patch (wide s q) i (coded w P k q) (on v' q) → late_outcome S' T' s i v' c ≡ (0, store q o v')
  stage_done {q = q} z e ek eo = stage_outcome S' T' s i P v' z e ∙ ap (λ (u : Triple). (0, u)) (sym (one_written w p T' s i P l g r ek q eo))

  stage_refused : {c : Call} {q : Place} {x : Bool} → Stage S' T' s i P v' c q x → x ≡ false → late_outcome S' T' s i v' c ≡ (10, v')
  stage_refused z e = stage_outcome S' T' s i P v' z e

  -- ---- the first stage

  abbrev found : Verdict
  found = judge S' T' (sector_of s i v')

  module _ (out : List ℕ) {o : List ℕ} where
    pub first_whole : {f : Found} → verdict_outcome found out ≡ (finding_number f, o) → f ≡ F.Whole
        → {k : ℕ} → k ≡ tag_block (cipher_number w) (key_of p) T' P → {x : List ℕ} → x ≡ patch s i (coded w P k local) l
        → late_outcome S' T' s i v' (first P) ≡ (0, triple x g r)
    unfolding is_whole
    first_whole e q = stage_done (first_is S' T' s i P v') (ap is_whole (found_whole found out e q))

    pub first_doubtful : {f : Found} {d : D.Place} → verdict_outcome found out ≡ (finding_number f, o) → f ≡ F.Doubtful d → late_outcome S' T' s i v' (first P) ≡ (10, v')
    unfolding is_whole
    first_doubtful e q = stage_refused (first_is S' T' s i P v') (ap is_whole (found_doubtful found out e q))

    pub first_refused : (f : Refusal) → verdict_outcome found out ≡ (refusal_number f, o) → late_outcome S' T' s i v' (first P) ≡ (10, v')
    first_refused f e = stage_refused (first_is S' T' s i P v') (refused_not_whole found (found_refused found out f e))

  -- ---- the second and the third stage: x and y are the code's tests of the local place and of the tag

  module _ {k : ℕ} (ek : k ≡ tag_block (cipher_number w) (key_of p) T' P) {x : Bool} (ex : x ≡ same (part s i l) (coded w P k local)) where
    fits_x : x ≡ fits S' T' (sector_of s i v') local P
    fits_x = coded_fits w p T' P ek (sector_of s i v') local ex

    pub second_fits : x ≡ true → {o : List ℕ} → o ≡ patch 16 i (coded w P k tag) g → late_outcome S' T' s i v' (second P) ≡ (0, triple l o r)
    second_fits e = stage_done (second_is S' T' s i P v') (sym fits_x ∙ e) ek

    pub second_fails : x ≡ false → late_outcome S' T' s i v' (second P) ≡ (10, v')
    second_fails e = stage_refused (second_is S' T' s i P v') (sym fits_x ∙ e)

    pub third_fails_local : x ≡ false → late_outcome S' T' s i v' (third P) ≡ (10, v')
    third_fails_local e = stage_refused (third_is S' T' s i P v') (and_first _ (fits S' T' (sector_of s i v') tag P) (sym fits_x ∙ e))

    module _ {y : Bool} (ey : y ≡ same (part 16 i g) (coded w P k tag)) where
      fits_y : y ≡ fits S' T' (sector_of s i v') tag P
      fits_y = coded_fits w p T' P ek (sector_of s i v') tag ey

      pub third_fits : x ≡ true → y ≡ true → {o : List ℕ} → o ≡ patch s i (coded w P k remote) r → late_outcome S' T' s i v' (third P) ≡ (0, triple l g o)
      third_fits e f =
          stage_done (third_is S' T' s i P v') (and_both (fits S' T' (sector_of s i v') local P) (fits S' T' (sector_of s i v') tag P) (sym fits_x ∙ e) (sym fits_y ∙ f)) ek

      pub third_fails_tag : y ≡ false → late_outcome S' T' s i v' (third P) ≡ (10, v')
      third_fails_tag f = stage_refused (third_is S' T' s i P v') (and_second (fits S' T' (sector_of s i v') local P) _ (sym fits_y ∙ f))
