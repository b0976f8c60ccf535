-- A part of an image that is lent on: what is lent is `part`, and what comes back is `patch`. Assumes nothing.
use mathlib.Core.Path.{◌≡◌, refl, sym, ap, ap₂, ◌∙◌}
use mathlib.Core.Bool.{Bool, true, false, ◌&&◌}
use mathlib.Core.List.{List, ◌++◌, append_assoc}
use Prim.Native.Nat.{ℕ, ◌+◌, ◌*◌, ◌-◌, ◌≤◌, ◌%◌, ◌^◌, ◌<◌}
use native.Mathlib.Omega.{arith}
use lib.Dec.{eqb}
use lib.ListN.{length, take, drop, length-take, length-drop}
use borrow.Rule.Slice.PartMut.{mid_of, put_mid, Post-is}
use borrow.Author.Tests.{eqb-true, eqb-false}
use Rattle.std.specs.Cmp.Lexicographic.{pointwise}
use Rattle.std.specs.Prelude.{nat_eq}
use Rattle.block.specs.Bytes.{Bytes, from_bytes, to_bytes, part, patch, same}
use Rattle.block.specs.declared.Block.{Block}
use Rattle.block.specs.Value.{value}
use Rattle.block.proofs.Lists.{eq_same, same_ne, same_pointwise}
use Rattle.block.proofs.Numbers.{from_to, to_from}
use Rattle.block.proofs.Parts.{bytes_part}
use Rattle.block.proofs.Words.{equal_blocks}
use Rattle.mode.specs.Sealing.{Triple, triple}
use Rattle.answers.specs.Passing.{Sizes}
use Rattle.history.specs.Volume.{sector_of}
use Rattle.images.specs.Lent.{Within}

lent_part : (w i : ℕ) (image : List ℕ) → mid_of (i * w) (i * w + w - i * w) image ≡ part w i image
unfolding part
lent_part w i image =
    let e : i * w + w - i * w ≡ w = omega arith in
    ap (λ (k : ℕ). take k (drop (i * w) image)) e

lent_patch : (w i : ℕ) (image b : List ℕ) → put_mid (i * w) (i * w + w - i * w) image b ≡ patch w i b image
unfolding patch
lent_patch w i image b = ap (λ (z : List ℕ). take (i * w) image ++ (b ++ z)) (Post-is (i * w) (i * w + w) image (omega arith))

-- ---- parts that are read

pub lent_sector : (s i : ℕ) (l g r : List ℕ)
    → triple (mid_of (i * s) (i * s + s - i * s) l) (mid_of (i * 16) (i * 16 + 16 - i * 16) g) (mid_of (i * s) (i * s + s - i * s) r) ≡ sector_of s i (triple l g r)
lent_sector s i l g r = λ j. triple (lent_part s i l j) (lent_part 16 i g j) (lent_part s i r j)

part_long : (w i : ℕ) (image : List ℕ) → i * w + w ≤ length image → length (part w i image) ≡ w
unfolding part
part_long w i image h = simp (length-take, length-drop) (omega arith)

-- t are the three places of a sector: the lengths that judging asks for
module _ (s i : ℕ) (l g r : List ℕ) (z : Within s i (length l) (length g) (length r)) (t : Triple) (e : t ≡ sector_of s i (triple l g r)) where
  pub local_long : length t.local ≡ s
  local_long = ap (λ (t : Triple). length t.local) e ∙ part_long s i l z.local_end

  pub part_sizes : Sizes (length t.local) (length t.remote) (length t.local) (length t.tag)
  part_sizes =
      let remote_long : length t.remote ≡ s = ap (λ (t : Triple). length t.remote) e ∙ part_long s i r z.remote_end in
      record {
        blocks = ap (λ (n : ℕ). n % 16) local_long ∙ z.blocks;
        most = omega (arith, local_long, z.most);
        first = remote_long ∙ sym local_long;
        second = refl;
        tag_size = ap (λ (t : Triple). length t.tag) e ∙ part_long 16 i g z.tag_end;
      }

-- ---- parts that are written: b comes back as b'

pub lent_written : (w i : ℕ) (image : List ℕ) {b b' : List ℕ} → b ≡ b' → put_mid (i * w) (i * w + w - i * w) image b ≡ patch w i b' image
lent_written w i image {b} e = lent_patch w i image b ∙ ap (λ (x : List ℕ). patch w i x image) e

-- a block stored at i * 16
pub stored_written : (i x : ℕ) (tags : List ℕ) {o : List ℕ} → o ≡ take (i * 16) tags ++ to_bytes 16 x ++ drop (i * 16 + 16) tags → o ≡ patch 16 i (to_bytes 16 x) tags
unfolding patch
stored_written i x tags e = e ∙ append_assoc (take (i * 16) tags) (to_bytes 16 x) (drop (i * 16 + 16) tags)

-- ---- parts that are compared: with b, which is b'

pub lent_compared : (w i : ℕ) (image : List ℕ) {b b' : List ℕ} → b ≡ b' → {x : Bool} → x ≡ pointwise nat_eq (mid_of (i * w) (i * w + w - i * w) image) b → x ≡ same (part w i image) b'
lent_compared w i image {b} e ex = ex ∙ same_pointwise (mid_of (i * w) (i * w + w - i * w) image) b ∙ ap₂ same (lent_part w i image) e

-- bytes are those of a block exactly if they are its number
block_same : (xs : List ℕ) → length xs ≡ 16 → Bytes xs → (n : ℕ) → n < 2 ^ 128 → eqb (from_bytes xs) n ≡ same xs (to_bytes 16 n)
block_same xs e h n b = go (eqb (from_bytes xs) n) refl
  where
    go : (t : Bool) → eqb (from_bytes xs) n ≡ t → eqb (from_bytes xs) n ≡ same xs (to_bytes 16 n)
    go true p = p ∙ sym (eq_same (sym (ap (λ (k : ℕ). to_bytes k (from_bytes xs)) (sym e) ∙ to_from xs h) ∙ ap (to_bytes 16) (eqb-true (from_bytes xs) n p)))
    go false p = p ∙ sym (same_ne xs (to_bytes 16 n) (λ q. eqb-false (from_bytes xs) n p (ap from_bytes q ∙ from_to 16 n b)))

number_lt : (g : Block) → g.hi < 2 ^ 64 → g.lo < 2 ^ 64 → value g < 2 ^ 128
unfolding value
number_lt g p q = omega arith

-- the block b is what stands at i * 16
pub tag_same : (i : ℕ) (tags : List ℕ) (b g : Block) → b.lo < 2 ^ 64 → g.hi < 2 ^ 64 → g.lo < 2 ^ 64 → Bytes tags → i * 16 + 16 ≤ length tags
    → value b ≡ from_bytes (take 16 (drop (i * 16) tags)) → {x : Bool} → x ≡ (eqb b.hi g.hi && eqb b.lo g.lo) → x ≡ same (part 16 i tags) (to_bytes 16 (value g))
unfolding part
tag_same i tags b g p q r h z eb ex =
    ex ∙ equal_blocks b g p r ∙ ap (λ (n : ℕ). eqb n (value g)) eb
    ∙ block_same (part 16 i tags) (simp (length-take, length-drop) (omega arith)) (bytes_part 16 i tags h) (value g) (number_lt g q r)
