-- What opening a side finds, and the other side rebuilt from it, from what the code has worked out. Assumes nothing.
use mathlib.Core.Path.{◌≡◌, refl, sym, ap, ap₂, ◌∙◌, subst}
use mathlib.Core.Bool.{Bool, true, false}
use mathlib.Core.List.{List}
use mathlib.Core.Option.{none, some}
use Prim.Native.Nat.{ℕ, ◌%◌}
use lib.ListN.{length, take, drop}
use Rattle.block.specs.Bytes.{Bytes, Plain, from_bytes, same}
use Rattle.block.proofs.Lists.{same_eq, ne_same}
use Rattle.block.proofs.Numbers.{from_to}
use Rattle.fips197.specs.Aes.{cipher_number}
use Rattle.fips197.proofs.Bounds.{cipher_lt}
use Rattle.hash.specs.Powers.{key_of}
use Rattle.mode.specs.declared.Direction.{Direction}
use Rattle.mode.specs.Sealing.{tag_block, local_block, remote_block, sides, sealed_by}
use Rattle.mode.specs.Scheme.{on, Scheme, Lawful, dcm}
use Rattle.mode.specs.Transforms.{transformed_by}
use Rattle.mode.proofs.Laws.{tag_lt, dcm_lawful}
use Rattle.mode.specs.Prepared.{scheme_of}
use Rattle.verdict.specs.Judging.{sealing_of}
use Rattle.verdict.specs.Verdict.{Side, local_side, remote_side, place_of, other_side, open_side, opened, FitsBoth}
use Rattle.verdict.proofs.OpenExact.{open_plain, opens_one, opened_some, opened_none}
use Rattle.verdict.proofs.Sides.{tag_loaded}

-- a side x and a tag g as lent
pub record SideKnown (x g : List ℕ) : Type 0 where
  pub bytes_x : Bytes x
  pub bytes_g : Bytes g
  pub blocks : length x % 16 ≡ 0
  pub tag_size : length g ≡ 16

module _ (w p : List ℕ) (T : ℕ) (d : Side) (x g : List ℕ) (known : SideKnown x g) where
  abbrev S : Scheme
  S = scheme_of w p

  lawful : Lawful (length x) S
  lawful = dcm_lawful (cipher_number w) (cipher_lt w) (key_of p) (length x) known.blocks

  plain_x : Plain (length x) x
  plain_x = record { long = refl; bytes = known.bytes_x }

  plain_g : Plain 16 g
  plain_g = record { long = known.tag_size; bytes = known.bytes_g }

  -- what is found has the tag, so it fits the side too
  fitting : (o : List ℕ) → o ≡ open_side S d g x → g ≡ (S.sealed T o).tag → FitsBoth S T d g x o
  fitting o e f = record { fits_tag = f; fits_side = side d e }
    where
      side : (d : Side) → o ≡ open_side S d g x → x ≡ on (S.sealed T o) (place_of d)
      side local_side e =
          sym (ap (λ (Q : List ℕ). (S.sealed T Q).local) e ∙ lawful.onto_left T g x plain_g plain_x (ap (λ (Q : List ℕ). (S.sealed T Q).tag) (sym e) ∙ sym f))
      side remote_side e =
          sym (ap (λ (Q : List ℕ). (S.sealed T Q).remote) e ∙ lawful.onto_right T g x plain_g plain_x (ap (λ (Q : List ℕ). (S.sealed T Q).tag) (sym e) ∙ sym f))

  found_plain : Plain (length x) (open_side S d g x)
  found_plain = open_plain (length x) S lawful T d g x plain_g plain_x

  module _ (o : List ℕ) (b : Bool) (e : (o ≡ open_side S d g x) × (b ≡ same g (S.sealed T o).tag)) where
    pub found : b ≡ true → opened S T d g x ≡ some o
    found y =
        opened_some (length x) S lawful T d g x o (subst (λ (Q : List ℕ). Plain (length x) Q) (sym e.0) found_plain)
        (fitting o e.0 (same_eq g (S.sealed T o).tag (sym e.1 ∙ y)))

    pub missing : b ≡ false → opened S T d g x ≡ none
    missing n =
        opened_none (length x) S lawful T d g x found_plain
        (λ P h f.
        let q : o ≡ P = e.0 ∙ opens_one (length x) S lawful T d g x P h f in
        ne_same g (S.sealed T o).tag (sym e.1 ∙ n) (f.fits_tag ∙ ap (λ (Q : List ℕ). (S.sealed T Q).tag) (sym q)))

    -- the other side as the plaintext found seals, from the tag that was lent
    pub rebuilt : b ≡ true → (k : ℕ) {how : Direction} {y : List ℕ} → k ≡ from_bytes (take 16 (drop 0 g)) → how ≡ sealing_of (other_side d)
        → y ≡ transformed_by how w k o → y ≡ on (S.sealed T o) (place_of (other_side d))
    unfolding dcm sealed_by sides local_block remote_block
    rebuilt t k {how} {y} ek eh ey =
        ey ∙ ap₂ (λ (h : Direction) (n : ℕ). transformed_by h w n o) eh tag_is ∙ side d
      where
        tag_is : k ≡ tag_block (cipher_number w) (key_of p) T o
        tag_is =
            ek ∙ tag_loaded g known.tag_size ∙ ap from_bytes (same_eq g (S.sealed T o).tag (sym e.1 ∙ t))
            ∙ from_to 16 (tag_block (cipher_number w) (key_of p) T o) (tag_lt (cipher_number w) (cipher_lt w) (key_of p) T o)

        side : (d : Side) → transformed_by (sealing_of (other_side d)) w (tag_block (cipher_number w) (key_of p) T o) o
            ≡ on (S.sealed T o) (place_of (other_side d))
        side local_side = refl
        side remote_side = refl
