-- What the code works out when it opens a side, in the terms of the specification. Assumes nothing.
use mathlib.Core.Path.{◌≡◌, refl, sym, ap, ap₂, ◌∙◌}
use mathlib.Core.Bool.{Bool, true, false, ◌&&◌}
use mathlib.Core.List.{List}
use Prim.Native.Nat.{ℕ, ◌^◌, ◌<◌}
use native.Mathlib.Nat.{le_of_eq}
use lib.Dec.{eqb}
use lib.ListN.{length, take, drop}
use lib.Seq.{take_all}
use borrow.Author.Tests.{eqb-true, eqb-false}
use Rattle.block.specs.Bytes.{Bytes, from_bytes, to_bytes, same}
use Rattle.block.specs.declared.Block.{Block}
use Rattle.block.specs.Value.{value}
use Rattle.block.proofs.Lists.{eq_same, same_ne}
use Rattle.block.proofs.Numbers.{from_to, to_from}
use Rattle.block.proofs.Words.{equal_blocks}
use Rattle.fips197.specs.Aes.{cipher_number}
use Rattle.fips197.proofs.Bounds.{cipher_lt}
use Rattle.hash.specs.Powers.{key_of}
use Rattle.mode.specs.declared.Direction.{Direction}
use Rattle.mode.specs.Sealing.{tag_block, open_local_block, open_remote_block, sides, sealed_by}
use Rattle.mode.specs.Scheme.{dcm}
use Rattle.mode.specs.Transforms.{transformed_by}
use Rattle.mode.proofs.Laws.{tag_lt}
use Rattle.mode.specs.Prepared.{scheme_of}
use Rattle.verdict.specs.Judging.{opening_of}
use Rattle.verdict.specs.Verdict.{Side, local_side, remote_side, open_side}

-- a tag as a block
pub tag_loaded : (g : List ℕ) → length g ≡ 16 → from_bytes (take 16 (drop 0 g)) ≡ from_bytes g
tag_loaded g e = ap from_bytes (take_all 16 g (le_of_eq e))

-- comparing blocks is comparing bytes
block_same : (g : List ℕ) → length g ≡ 16 → Bytes g → (n : ℕ) → n < 2 ^ 128 → eqb n (from_bytes g) ≡ same g (to_bytes 16 n)
block_same g e h n b = go (eqb n (from_bytes g)) refl
  where
    back : to_bytes 16 (from_bytes g) ≡ g
    back = ap (λ (k : ℕ). to_bytes k (from_bytes g)) (sym e) ∙ to_from g h

    go : (t : Bool) → eqb n (from_bytes g) ≡ t → eqb n (from_bytes g) ≡ same g (to_bytes 16 n)
    go true p = p ∙ sym (eq_same (sym (ap (to_bytes 16) (eqb-true n (from_bytes g) p) ∙ back)))
    go false p = p ∙ sym (same_ne g (to_bytes 16 n) (λ q. eqb-false n (from_bytes g) p (sym (from_to 16 n b) ∙ ap from_bytes (sym q))))

module _ (w p : List ℕ) (T : ℕ) (g : List ℕ) (size : length g ≡ 16) (bytes : Bytes g) where
  tag_compared : (P : List ℕ) (k n : ℕ) {y : Bool} → k ≡ tag_block (cipher_number w) (key_of p) T P → n ≡ from_bytes (take 16 (drop 0 g)) → y ≡ eqb k n
      → y ≡ same g ((scheme_of w p).sealed T P).tag
  unfolding dcm sealed_by sides
  tag_compared P k n ek en ey =
      ey ∙ ap (eqb k) (en ∙ tag_loaded g size) ∙ ap (λ (j : ℕ). eqb j (from_bytes g)) ek
      ∙ block_same g size bytes (tag_block (cipher_number w) (key_of p) T P) (tag_lt (cipher_number w) (cipher_lt w) (key_of p) T P)

  -- `==` of the tag that P has, and the one lent
  pub tag_tested : (P : List ℕ) (a b : Block) {y : Bool} → a.lo < 2 ^ 64 → b.lo < 2 ^ 64 → value a ≡ tag_block (cipher_number w) (key_of p) T P
      → value b ≡ from_bytes (take 16 (drop 0 g)) → y ≡ (eqb a.hi b.hi && eqb a.lo b.lo) → y ≡ same g ((scheme_of w p).sealed T P).tag
  tag_tested P a b la lb ea eb ey = tag_compared P (value a) (value b) ea eb (ey ∙ equal_blocks a b la lb)

  pub side_opened : (d : Side) (x : List ℕ) (k : ℕ) {how : Direction} {o : List ℕ} → k ≡ from_bytes (take 16 (drop 0 g)) → how ≡ opening_of d
      → o ≡ transformed_by how w k x → o ≡ open_side (scheme_of w p) d g x
  unfolding dcm open_local_block open_remote_block
  side_opened local_side x k ek eh e = e ∙ ap₂ (λ (h : Direction) (n : ℕ). transformed_by h w n x) eh (ek ∙ tag_loaded g size)
  side_opened remote_side x k ek eh e = e ∙ ap₂ (λ (h : Direction) (n : ℕ). transformed_by h w n x) eh (ek ∙ tag_loaded g size)
