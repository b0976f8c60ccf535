-- A tag of zeros leaves the sector doubtful: the two plaintexts that could fit it with a side have other tags. Assumes nothing.
use mathlib.Core.Path.{◌≡◌, refl, sym, ap, ap₂, ◌∙◌}
use mathlib.Core.Bool.{false}
use mathlib.Core.List.{List, [], ◌∷◌, ◌++◌}
use Prim.Native.Nat.{ℕ}
use native.Mathlib.Omega.{arith}
use lib.Bits.{bit_xor}
use lib.ListN.{replicate}
use Rattle.block.specs.Bytes.{Plain, same, number, from_bytes, to_bytes, blocks, blocks_of}
use Rattle.block.specs.Field.{times, double, horner, mul, x⁻¹, 1⊕x⁻¹}
use Rattle.block.proofs.Lists.{ne_same, plain_zeros}
use Rattle.block.proofs.Field.{field_laws}
use Rattle.fips197.specs.Aes.{cipher_number}
use Rattle.hash.specs.Brw.{cases, brw_in, brw}
use Rattle.mode.specs.Sealing.{Triple, hash_key, round_keys, tweak, times_x, blockwise, tag_block, pad, local_block, remote_block, open_local_block, open_remote_block, sides, sealed_by, sealed}
use Rattle.mode.specs.Scheme.{Place, local, tag, remote, is_key, is_size, Scheme, Lawful, dcm, scheme}
use Rattle.mode.specs.KeyFacts.{some_key}
use Rattle.mode.proofs.KeyFacts.{key_facts}
use Rattle.mode.proofs.Laws.{pad_is, tag_is}
use Rattle.verdict.specs.Verdict.{Fits, candidate}
use Rattle.verdict.proofs.JudgeExact.{FitsBut, local_tag, tag_remote, but_tag, two_but, but_two, only, one_for_a_pair}
use Rattle.answers.specs.Rules.{is_zero_hash}
use Rattle.history.specs.Volume.{mirror, store}
use Rattle.history.proofs.Demand3.{mirror_sound}
use Rattle.history.specs.Witness.{AcceptedVolume}
use Rattle.writes.proofs.Witness.{each_cut}
use Rattle.doubt.specs.Example.{some_volume, SomeDoubt, SomeCuts}
use Rattle.doubt.proofs.Values.{values}

abbrev zeros : List ℕ
zeros = replicate 16 0

abbrev E : ℕ → ℕ
E = cipher_number (round_keys some_key)

abbrev tag_of : List ℕ → ℕ
tag_of P = tag_block E (hash_key some_key) (tweak 0 0) P

-- ---- what the damaged sector can be opened to

-- the side of zeros that is sealed with the factor k; what a side is opened to with the factor m and a tag of zeros
abbrev side : ℕ → List ℕ
side k = blockwise (λ j v. bit_xor (pad E (tag_of zeros) j) (mul k v)) 1 (blocks_of zeros)

abbrev opened : ℕ → List ℕ → List ℕ
opened m l = blockwise (λ j v. mul m (bit_xor (pad E (from_bytes zeros) j) v)) 1 (blocks_of l)

-- the pad of the one block under the tag g, from x, whose cipher it is
pad_one : (g : ℕ) {x p : ℕ} → E x ≡ p → x ≡ bit_xor g (double 0x1b94b57e0718d6b563b170a063d1847d) → pad E g 1 ≡ p
unfolding times_x
pad_one g ep ex = sym (pad_is (round_keys some_key) g 1 (sym ep) ex refl (sym values.beta))

-- the sum of the two pads, divided
opened_is : (m k : ℕ) → opened m (side k) ≡ to_bytes 16 (mul m 0xbdc1810ba7f37df755a391ae50e927c6)
unfolding blockwise blocks_of blocks from_bytes number to_bytes double times
opened_is m k =
    ap (λ (g : ℕ). opened m (to_bytes 16 (bit_xor (pad E g 1) (mul k 0)) ++ [])) key_facts.own
    ∙ ap₂ (λ (p z : ℕ). opened m (to_bytes 16 (bit_xor p z) ++ [])) (pad_one _ values.pad_sealed refl) (field_laws.mul_zero k)
    ∙ ap (λ (p : ℕ). to_bytes 16 (mul m (bit_xor p 0x9071d4d4cda667be17bfd17c50074978)) ++ []) (pad_one 0 values.pad_damaged refl)

-- and its tag, from x, whose cipher it is
tag_opened : (m k : ℕ) {x t : ℕ} → E x ≡ t
    → x ≡ bit_xor (mul (hash_key some_key) (brw (hash_key some_key) (blocks_of (to_bytes 16 (mul m 0xbdc1810ba7f37df755a391ae50e927c6)) ++ (tweak 0 0 ∷ [])))) 0xeda330f90eecd16c003e5fb09bcff358
    → tag_of (opened m (side k)) ≡ t
tag_opened m k et ex =
    ap tag_of (opened_is m k) ∙ sym (tag_is (round_keys some_key) (hash_key some_key) (tweak 0 0) _ (sym et) ex refl refl refl (sym values.alpha))

tags : (tag_of (opened 1⊕x⁻¹ (side 3)) ≡ 0x389267ba194128f36335739dbccee8c7) × (tag_of (opened x⁻¹ (side 2)) ≡ 0x78f080c20e88e1b35147d2cc74605684)
unfolding number from_bytes to_bytes blocks blocks_of times double horner mul cases brw_in brw hash_key tweak
tags = (tag_opened 1⊕x⁻¹ 3 values.tag_local refl, tag_opened x⁻¹ 2 values.tag_remote refl)

-- ---- the damaged sector

abbrev S : Scheme
S = mirror some_key 0

abbrev damaged : Triple
damaged = store tag zeros (S.sealed 0 zeros)

lawful : Lawful 16 S
unfolding to_bytes is_key is_size
lawful = (mirror_sound 0).lawful some_key 16 refl refl

zeros_fit : FitsBut S 0 damaged tag zeros
zeros_fit = but_tag S 0 damaged zeros refl refl

-- a plaintext whose tag is not zero does not fit the tag
other_tag : {P Q : List ℕ} {t : ℕ} → tag_of Q ≡ t → same zeros (to_bytes 16 t) ≡ false → P ≡ Q → Fits S 0 damaged tag P → ⊥
unfolding mirror sealed sealed_by sides
other_tag et n e f = ne_same zeros (to_bytes 16 _) n (f ∙ ap (λ R. to_bytes 16 (tag_of R)) e ∙ ap (to_bytes 16) et)

only_zeros : (Q : List ℕ) → Plain 16 Q → (d : Place) × FitsBut S 0 damaged d Q → Q ≡ zeros
unfolding mirror sealed sealed_by sides scheme dcm candidate local_block remote_block open_local_block open_remote_block same to_bytes
only_zeros Q p (tag, f) = one_for_a_pair 16 S lawful 0 damaged tag Q zeros p (plain_zeros 16) f zeros_fit
only_zeros Q p (local, f) = absurd (other_tag tags.1 refl (only 16 S lawful 0 damaged local Q p f) (f tag (λ e. local_tag (sym e))))
only_zeros Q p (remote, f) = absurd (other_tag tags.0 refl (only 16 S lawful 0 damaged remote Q p f) (f tag tag_remote))

pub some_doubt : SomeDoubt
unfolding same to_bytes
some_doubt = (
  plain_zeros 16,
  (plain_zeros 16, but_two S 0 damaged tag zeros zeros_fit, λ Q p f. only_zeros Q p (two_but S 0 damaged Q f), other_tag key_facts.own refl refl),
)

accepted : AcceptedVolume some_volume
unfolding number from_bytes to_bytes hash_key is_key is_zero_hash is_size
accepted = record { key = refl; hash = refl; size = refl; least = omega arith; most = omega arith }

pub some_cuts : SomeCuts
some_cuts v I P p k c = each_cut some_volume accepted v I 0 (omega arith) P p k c tag zeros some_doubt
