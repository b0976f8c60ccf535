-- The answer of judging from what the code has worked out. Assumes nothing.
use mathlib.Core.Path.{◌≡◌, refl, sym, ap, ◌∙◌, subst}
use mathlib.Core.Bool.{Bool, true, false, ◌&&◌}
use mathlib.Core.List.{List}
use Prim.Native.Nat.{ℕ, ◌^◌, ◌<◌}
use lib.Dec.{eqb}
use lib.ListN.{length, take, drop}
use Rattle.block.specs.Bytes.{Bytes, Plain, from_bytes, xor_bytes, same}
use Rattle.block.specs.declared.Block.{Block}
use Rattle.block.specs.Value.{value}
use Rattle.std.specs.Prelude.{nat_eq}
use Rattle.std.specs.Cmp.Lexicographic.{pointwise}
use Rattle.block.proofs.Lists.{same_eq, ne_same, same_pointwise}
use Rattle.fips197.specs.Aes.{cipher_number}
use Rattle.fips197.proofs.Bounds.{cipher_lt}
use Rattle.hash.specs.Powers.{key_of}
use Rattle.mode.specs.declared.Direction.TheVariants.{SealRemote}
use Rattle.mode.specs.Sealing.{Triple, tag_block, remote_block, sides, sealed_by}
use Rattle.mode.specs.Scheme.{Place, local, tag, remote, on, wide, Sector, Scheme, Lawful, dcm}
use Rattle.mode.specs.Transforms.{transformed_by}
use Rattle.mode.proofs.Laws.{dcm_lawful}
use Rattle.mode.specs.Lent.{scheme_lent}
use Rattle.mode.specs.declared.lent.Keyed.{Keyed}
use Rattle.answers.specs.Lent.{triple_of}
use Rattle.verdict.specs.declared.part.Part.{Part}
use Rattle.verdict.specs.Judging.{verdict_outcome, judged_by, SumFits, SumFails}
use Rattle.verdict.specs.Verdict.{Fits, fits, candidate, judge, Verdict, Side, local_side, remote_side, open_side}
use Rattle.verdict.proofs.JudgeExact.{fits-Fits, misfits}
use Rattle.verdict.proofs.Cases as cases
use Rattle.verdict.proofs.Sides.{tag_tested}

module _ (k : Keyed) (T : ℕ) (part : Part) (bl : Bytes part.places.local.now) (bg : Bytes part.places.tag.now) (br : Bytes part.places.remote.now) where
  abbrev w : List ℕ
  w = k.pads.words.now

  abbrev p : List ℕ
  p = k.powers.now.words

  abbrev l : List ℕ
  l = part.places.local.now

  abbrev g : List ℕ
  g = part.places.tag.now

  abbrev r : List ℕ
  r = part.places.remote.now

  abbrev t : Triple
  t = triple_of part.places

  abbrev S : Scheme
  S = scheme_lent k

  lawful : Lawful (length l) S
  lawful = dcm_lawful (cipher_number w) (cipher_lt w) (key_of p) (length l) part.sizes.blocks

  sector : Sector (length l) t
  sector = record { places = at }
    where
      at : (q : Place) → Plain (wide (length l) q) (on t q)
      at local = record { long = refl; bytes = bl }
      at tag = record { long = part.sizes.tag_size; bytes = bg }
      at remote = record { long = part.sizes.first; bytes = br }

  -- ---- the tests

  -- a side opened with the tag: what it gives, and whether that has the tag
  abbrev Tried : Side → List ℕ → List ℕ → Bool → Type 0
  Tried d x o b = (o ≡ open_side S d g x) × (b ≡ same g (S.sealed T o).tag)

  tried_yes : (d : Side) (x o : List ℕ) {b : Bool} → Tried d x o b → b ≡ true → Fits S T t tag (open_side S d g x)
  tried_yes d x o e y = same_eq g _ (ap (λ (Q : List ℕ). same g (S.sealed T Q).tag) (sym e.0) ∙ sym e.1 ∙ y)

  tried_no : (d : Side) (x o : List ℕ) {b : Bool} → Tried d x o b → b ≡ false → Fits S T t tag (open_side S d g x) → ⊥
  tried_no d x o e n = ne_same g _ (ap (λ (Q : List ℕ). same g (S.sealed T Q).tag) (sym e.0) ∙ sym e.1 ∙ n)

  left_yes : (o : List ℕ) {b : Bool} → Tried local_side l o b → b ≡ true → Fits S T t tag (candidate S T t remote)
  unfolding candidate
  left_yes o e y = tried_yes local_side l o e y

  left_no : (o : List ℕ) {b : Bool} → Tried local_side l o b → b ≡ false → Fits S T t tag (candidate S T t remote) → ⊥
  unfolding candidate
  left_no o e n = tried_no local_side l o e n

  right_yes : (o : List ℕ) {b : Bool} → Tried remote_side r o b → b ≡ true → Fits S T t tag (candidate S T t local)
  unfolding candidate
  right_yes o e y = tried_yes remote_side r o e y

  right_no : (o : List ℕ) {b : Bool} → Tried remote_side r o b → b ≡ false → Fits S T t tag (candidate S T t local) → ⊥
  unfolding candidate
  right_no o e n = tried_no remote_side r o e n

  left_is : (o : List ℕ) {b : Bool} → Tried local_side l o b → o ≡ candidate S T t remote
  unfolding candidate
  left_is o e = e.0

  right_is : (o : List ℕ) {b : Bool} → Tried remote_side r o b → o ≡ candidate S T t local
  unfolding candidate
  right_is o e = e.0

  answer : (out : List ℕ) {v : Verdict} → judge S T t ≡ v → judged_by S T t out ≡ verdict_outcome v out
  answer out e = ap (λ (v : Verdict). verdict_outcome v out) e

  -- the sum is a candidate
  sum_is : (sum : List ℕ) → sum ≡ xor_bytes l r → sum ≡ candidate S T t tag
  unfolding candidate
  sum_is sum e = e

  -- what the code works out of the sum local ⊕ remote: its tag h, its remote side o, and whether that is the remote sector
  module _ (sum o : List ℕ) (h : Block) (x : Bool) (es : sum ≡ xor_bytes l r) (eh : value h ≡ tag_block (cipher_number w) (key_of p) T sum)
      (eo : o ≡ transformed_by SealRemote w (value h) sum) (ex : x ≡ pointwise nat_eq r o) where
    remote_test : x ≡ fits S T t remote sum
    unfolding fits dcm sealed_by sides remote_block
    remote_test = ex ∙ same_pointwise r o ∙ ap (same r) (eo ∙ ap (λ (n : ℕ). transformed_by SealRemote w n sum) eh)

    pub sum_fits_remote : x ≡ true → fits S T t remote sum ≡ true
    sum_fits_remote tx = sym remote_test ∙ tx

    pub sum_fails : x ≡ false → SumFails S T t
    unfolding SumFails
    sum_fails nx = ap (fits S T t remote) (sym es) ∙ sym remote_test ∙ nx

    -- it is: the tag h against the one lent
    module _ (n : Block) (y : Bool) (lh : h.lo < 2 ^ 64) (ln : n.lo < 2 ^ 64) (en : value n ≡ from_bytes (take 16 (drop 0 g))) (ey : y ≡ (eqb h.hi n.hi && eqb h.lo n.lo)) (tx : x ≡ true) where
      tag_test : y ≡ fits S T t tag sum
      unfolding fits
      tag_test = tag_tested w p T g part.sizes.tag_size bg sum h n lh ln eh en ey

      pub sum_misses_tag : y ≡ false → fits S T t tag sum ≡ false
      sum_misses_tag ny = sym tag_test ∙ ny

      pub sum_whole : y ≡ true → (out : List ℕ) {a : List ℕ} → a ≡ sum → judged_by S T t out ≡ (0, a)
      sum_whole ty out ea =
          let c = sum_is sum es in
          answer out
          (cases.is_whole_lem (length l) S lawful T t sector
          (subst (λ (Q : List ℕ). Fits S T t remote Q) c (fits-Fits S T t remote sum (sym remote_test ∙ tx)))
          (subst (λ (Q : List ℕ). Fits S T t tag Q) c (fits-Fits S T t tag sum (sym tag_test ∙ ty))))
          ∙ ap (λ (Q : List ℕ). (0, Q)) (sym (ea ∙ c))

  module _ (out : List ℕ) where
    -- ---- it fits the sides only

    module _ (sum : List ℕ) (f : SumFits S T t sum) where
      fits-sides : Fits S T t remote (candidate S T t tag)
      fits-sides = subst (λ (Q : List ℕ). Fits S T t remote Q) (sum_is sum f.is_sum) (fits-Fits S T t remote sum f.fits_remote)

      fits_no_tag : Fits S T t tag (candidate S T t tag) → ⊥
      fits_no_tag x = misfits S T t tag sum f.fits_no_tag (subst (λ (Q : List ℕ). Fits S T t tag Q) (sym (sum_is sum f.is_sum)) x)

      pub clash_left : {a : List ℕ} {x : Bool} → a ≡ open_side S local_side g l → x ≡ same g (S.sealed T a).tag → x ≡ true → judged_by S T t out ≡ (7, out)
      clash_left {a} ea ex y = answer out (cases.clash_left (length l) S lawful T t sector fits-sides fits_no_tag (left_yes a (ea, ex) y))

      pub clash_right : {b : List ℕ} {y : Bool} → b ≡ open_side S remote_side g r → y ≡ same g (S.sealed T b).tag → y ≡ true → judged_by S T t out ≡ (7, out)
      clash_right {b} eb ey y = answer out (cases.clash_right (length l) S lawful T t sector fits-sides fits_no_tag (right_yes b (eb, ey) y))

      pub sum_only : {o : List ℕ} → o ≡ sum → {a b : List ℕ} {x y : Bool} → x ≡ false → x ≡ same g (S.sealed T a).tag → a ≡ open_side S local_side g l
          → y ≡ false → y ≡ same g (S.sealed T b).tag → b ≡ open_side S remote_side g r → judged_by S T t out ≡ (0x82, o)
      sum_only eo {a} {b} nx ex ea ny ey eb =
          answer out (cases.doubtful_tag (length l) S lawful T t sector fits-sides fits_no_tag (left_no a (ea, ex) nx) (right_no b (eb, ey) ny))
          ∙ ap (λ (Q : List ℕ). (0x82, Q)) (sym (eo ∙ sum_is sum f.is_sum))

    -- ---- it does not

    module _ (f : SumFails S T t) {a b : List ℕ} {x y : Bool} (ea : a ≡ open_side S local_side g l) (ex : x ≡ same g (S.sealed T a).tag)
        (eb : b ≡ open_side S remote_side g r) (ey : y ≡ same g (S.sealed T b).tag) where
      fails : Fits S T t remote (candidate S T t tag) → ⊥
      unfolding SumFails candidate
      fails z = misfits S T t remote (xor_bytes l r) f z

      pub clash_both : x ≡ true → y ≡ true → judged_by S T t out ≡ (7, out)
      clash_both tx ty = answer out (cases.clash_both (length l) S lawful T t sector fails (left_yes a (ea, ex) tx) (right_yes b (eb, ey) ty))

      pub left_only : x ≡ true → y ≡ false → {o : List ℕ} → o ≡ a → judged_by S T t out ≡ (0x83, o)
      left_only tx ny eo =
          answer out (cases.doubtful_remote (length l) S lawful T t sector fails (left_yes a (ea, ex) tx) (right_no b (eb, ey) ny))
          ∙ ap (λ (Q : List ℕ). (0x83, Q)) (sym (eo ∙ left_is a (ea, ex)))

      pub right_only : x ≡ false → y ≡ true → {o : List ℕ} → o ≡ b → judged_by S T t out ≡ (0x81, o)
      right_only nx ty eo =
          answer out (cases.doubtful_local (length l) S lawful T t sector fails (left_no a (ea, ex) nx) (right_yes b (eb, ey) ty))
          ∙ ap (λ (Q : List ℕ). (0x81, Q)) (sym (eo ∙ right_is b (eb, ey)))

      pub none_fits : x ≡ false → y ≡ false → judged_by S T t out ≡ (6, out)
      none_fits nx ny = answer out (cases.is_lost_lem (length l) S lawful T t sector fails (left_no a (ea, ex) nx) (right_no b (eb, ey) ny))
