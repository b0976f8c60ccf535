-- The mode is lawful: both sides are undone, and local ⊕ remote is the plaintext. Assumes nothing.
use mathlib.Core.Path.{◌≡◌, sym, ap, ap₂, ◌∙◌}
use mathlib.Core.List.{List, [], ◌∷◌, ◌++◌}
use Prim.Native.Nat.{ℕ, ◌+◌, ◌-◌, ◌*◌, ◌/◌, ◌%◌, ◌^◌, ◌<◌}
use native.Mathlib.Numerals.{add-one}
use native.Mathlib.Omega.{arith}
use lib.ListN.{length, take, drop, length-drop}
use lib.Seq.{take_all}
use lib.Bits.{bit_xor, xor_comm, xor_lt}
use Rattle.block.specs.Bytes.{Plain, number, from_bytes, to_bytes, blocks_of, xor_bytes}
use Rattle.block.specs.Field.{double, mul, x⁻¹, 1⊕x⁻¹}
use Rattle.block.proofs.Bits.{xor_assoc, xor_cancel}
use Rattle.block.proofs.Field.{mul_lt, mul-zero_l, mul_two_l, mul_three_l, x_inverse, x⁻¹-inverse, 1⊕x_inverse, 1⊕x⁻¹-inverse}
use Rattle.block.proofs.Lists.{xor_bytes_comm, xor_bytes_cancel}
use Rattle.block.proofs.Numbers.{number_append, from_to, bytes_to_bytes, length-to_bytes, number_scale}
use Rattle.hash.specs.Brw.{brw}
use Rattle.fips197.specs.Aes.{expand, cipher_number}
use Rattle.fips197.proofs.Bounds.{cipher_lt}
use Rattle.mode.specs.Sealing.{Key, key_from, cipher_key, round_keys, hash_key, tweak, times_x, blockwise, tag_block, pad, local_block, remote_block, open_local_block, open_remote_block, sides, sealed_by, sealed}
use Rattle.mode.specs.Scheme.{Place, local, tag, remote, on, wide, Lawful, Sound, dcm, scheme}
use Rattle.mode.proofs.Sizes.{size_whole}
use Rattle.mode.proofs.Blockwise.{blocks_of_below, plain_blockwise, blocks_back, undone, summed}

module _ (E : ℕ → ℕ) (E-lt : (x : ℕ) → E x < 2 ^ 128) where
  pad_lt : (g j : ℕ) → pad E g j < 2 ^ 128
  unfolding pad
  pad_lt g j = E-lt _

  pub tag_lt : (h T : ℕ) (P : List ℕ) → tag_block E h T P < 2 ^ 128
  unfolding tag_block
  tag_lt h T P = E-lt _

  module _ (g : ℕ) where
    local_lt : (j v : ℕ) → v < 2 ^ 128 → local_block E g j v < 2 ^ 128
    unfolding local_block
    local_lt j v h = xor_lt 128 (pad E g j) (mul 3 v) (pad_lt g j) (mul_lt 3 h)

    remote_lt : (j v : ℕ) → v < 2 ^ 128 → remote_block E g j v < 2 ^ 128
    unfolding remote_block
    remote_lt j v h = xor_lt 128 (pad E g j) (mul 2 v) (pad_lt g j) (mul_lt 2 h)

    local_undone : (j v : ℕ) → v < 2 ^ 128 → open_local_block E g j (local_block E g j v) ≡ v
    unfolding local_block open_local_block
    local_undone j v h = ap (mul 1⊕x⁻¹) (xor_cancel (pad E g j) (mul 3 v)) ∙ 1⊕x⁻¹-inverse h

    remote_undone : (j v : ℕ) → v < 2 ^ 128 → open_remote_block E g j (remote_block E g j v) ≡ v
    unfolding remote_block open_remote_block
    remote_undone j v h = ap (mul x⁻¹) (xor_cancel (pad E g j) (mul 2 v)) ∙ x⁻¹-inverse h

    open_local_lt : (j c : ℕ) → c < 2 ^ 128 → open_local_block E g j c < 2 ^ 128
    unfolding open_local_block
    open_local_lt j c h = mul_lt 1⊕x⁻¹ (xor_lt 128 (pad E g j) c (pad_lt g j) h)

    open_remote_lt : (j c : ℕ) → c < 2 ^ 128 → open_remote_block E g j c < 2 ^ 128
    unfolding open_remote_block
    open_remote_lt j c h = mul_lt x⁻¹ (xor_lt 128 (pad E g j) c (pad_lt g j) h)

    local_onto : (j c : ℕ) → c < 2 ^ 128 → local_block E g j (open_local_block E g j c) ≡ c
    unfolding local_block open_local_block
    local_onto j c h = ap (bit_xor (pad E g j)) (1⊕x_inverse (xor_lt 128 (pad E g j) c (pad_lt g j) h)) ∙ xor_cancel (pad E g j) c

    remote_onto : (j c : ℕ) → c < 2 ^ 128 → remote_block E g j (open_remote_block E g j c) ≡ c
    unfolding remote_block open_remote_block
    remote_onto j c h = ap (bit_xor (pad E g j)) (x_inverse (xor_lt 128 (pad E g j) c (pad_lt g j) h)) ∙ xor_cancel (pad E g j) c

    -- (1⊕x)·v ⊕ x·v is v
    block_sum : (j v : ℕ) → v < 2 ^ 128 → bit_xor (local_block E g j v) (remote_block E g j v) ≡ v
    unfolding local_block remote_block
    block_sum j v h =
        let p : ℕ = pad E g j in
        ap (λ (x : ℕ). bit_xor x (bit_xor p (mul 2 v))) (xor_comm p (mul 3 v))
        ∙ xor_assoc (mul 3 v) p (bit_xor p (mul 2 v))
        ∙ ap₂ bit_xor (mul_three_l v) (xor_cancel p (mul 2 v) ∙ mul_two_l v)
        ∙ xor_comm (bit_xor (double v) v) (double v)
        ∙ xor_cancel (double v) v

  module _ (s : ℕ) (whole : s % 16 ≡ 0) (g : ℕ) (P : List ℕ) (p : Plain s P) where
    pub sides-shape : (q : Place) → Plain (wide s q) (on (sides E g P) q)
    unfolding sides
    sides-shape local = plain_blockwise s whole (local_block E g) P p
    sides-shape tag = record { long = length-to_bytes 16 g; bytes = bytes_to_bytes 16 g }
    sides-shape remote = plain_blockwise s whole (remote_block E g) P p

    pub sides-sum : xor_bytes (sides E g P).local (sides E g P).remote ≡ P
    unfolding sides
    sides-sum =
        summed (local_block E g) (local_lt g) (remote_block E g) (block_sum g) 1 (blocks_of P) (blocks_of_below P p.bytes) ∙ blocks_back s whole P p

    -- the remote side ⊕ the plaintext is the local side
    pub sides_other : xor_bytes (sides E g P).remote P ≡ (sides E g P).local
    sides_other =
        let l : List ℕ = (sides E g P).local in
        let r : List ℕ = (sides E g P).remote in
        let e : length r ≡ length l = (sides-shape remote).long ∙ sym (sides-shape local).long in
        ap (xor_bytes r) (sym sides-sum ∙ xor_bytes_comm l r) ∙ xor_bytes_cancel r l e

    sides_left : blockwise (open_local_block E g) 1 (blocks_of (sides E g P).local) ≡ P
    unfolding sides
    sides_left =
        undone (local_block E g) (local_lt g) (open_local_block E g) (local_undone g) 1 (blocks_of P) (blocks_of_below P p.bytes) ∙ blocks_back s whole P p

    sides_right : blockwise (open_remote_block E g) 1 (blocks_of (sides E g P).remote) ≡ P
    unfolding sides
    sides_right =
        undone (remote_block E g) (remote_lt g) (open_remote_block E g) (remote_undone g) 1 (blocks_of P) (blocks_of_below P p.bytes) ∙ blocks_back s whole P p

    -- as sealing after opening
    onto_local : blockwise (local_block E g) 1 (blocks_of (blockwise (open_local_block E g) 1 (blocks_of P))) ≡ P
    onto_local =
        undone (open_local_block E g) (open_local_lt g) (local_block E g) (local_onto g) 1 (blocks_of P) (blocks_of_below P p.bytes) ∙ blocks_back s whole P p

    onto_remote : blockwise (remote_block E g) 1 (blocks_of (blockwise (open_remote_block E g) 1 (blocks_of P))) ≡ P
    onto_remote =
        undone (open_remote_block E g) (open_remote_lt g) (remote_block E g) (remote_onto g) 1 (blocks_of P) (blocks_of_below P p.bytes) ∙ blocks_back s whole P p

  pub dcm_lawful : (h s : ℕ) → s % 16 ≡ 0 → Lawful s (dcm E h)
  unfolding dcm sealed_by sides
  dcm_lawful h s whole = record {
    shape = λ T P p. record { places = sides-shape s whole (tag_block E h T P) P p };
    left =
        λ T P p.
        ap (λ (g : ℕ). blockwise (open_local_block E g) 1 (blocks_of (sides E (tag_block E h T P) P).local)) (tag_back h T P)
        ∙ sides_left s whole (tag_block E h T P) P p;
    right =
        λ T P p.
        ap (λ (g : ℕ). blockwise (open_remote_block E g) 1 (blocks_of (sides E (tag_block E h T P) P).remote)) (tag_back h T P)
        ∙ sides_right s whole (tag_block E h T P) P p;
    onto_left =
        λ T g x q p e.
        ap (λ (k : ℕ). blockwise (local_block E k) 1 (blocks_of (blockwise (open_local_block E (from_bytes g)) 1 (blocks_of x)))) (tag_from h T _ g e)
        ∙ onto_local s whole (from_bytes g) x p;
    onto_right =
        λ T g x q p e.
        ap (λ (k : ℕ). blockwise (remote_block E k) 1 (blocks_of (blockwise (open_remote_block E (from_bytes g)) 1 (blocks_of x)))) (tag_from h T _ g e)
        ∙ onto_remote s whole (from_bytes g) x p;
    sum = λ T P p. sides-sum s whole (tag_block E h T P) P p;
    plain_local = λ g x q p. plain_blockwise s whole (open_local_block E (from_bytes g)) x p;
    plain_remote = λ g x q p. plain_blockwise s whole (open_remote_block E (from_bytes g)) x p;
  }
    where
      tag_back : (h T : ℕ) (P : List ℕ) → from_bytes (to_bytes 16 (tag_block E h T P)) ≡ tag_block E h T P
      tag_back h T P = from_to 16 (tag_block E h T P) (tag_lt h T P)

      tag_from : (h T : ℕ) (P g : List ℕ) → to_bytes 16 (tag_block E h T P) ≡ g → tag_block E h T P ≡ from_bytes g
      tag_from h T P g e = sym (tag_back h T P) ∙ ap from_bytes e

pub sound : Sound scheme
unfolding scheme
sound = record { lawful = λ k s ek es. dcm_lawful (cipher_number (round_keys k)) (cipher_lt (round_keys k)) (hash_key k) s (size_whole s es) }

-- ---- what the code works out

-- a tag, from the values on the way
pub tag_is : (w : List ℕ) (h T : ℕ) (P : List ℕ) {e x m k b a : ℕ} → e ≡ cipher_number w x → x ≡ bit_xor m a → m ≡ mul k b → k ≡ h
    → b ≡ brw h (blocks_of P ++ (T ∷ [])) → a ≡ cipher_number w 0 → e ≡ tag_block (cipher_number w) h T P
unfolding tag_block
tag_is w h T P e x m k b a = e ∙ ap (cipher_number w) (x ∙ ap₂ bit_xor (m ∙ ap₂ mul k b) a)

-- a mask is x^j · β
pub mask_next : (b j : ℕ) {m n : ℕ} → m ≡ times_x j b → n ≡ double m → n ≡ times_x (j + 1) b
unfolding times_x
mask_next b j e d = d ∙ ap double e ∙ ap (λ (k : ℕ). times_x k b) (sym (add-one j))

-- a pad, from its mask
pub pad_is : (w : List ℕ) (g j : ℕ) {e x m b : ℕ} → e ≡ cipher_number w x → x ≡ bit_xor g m → m ≡ times_x j b → b ≡ cipher_number w 1
    → e ≡ pad (cipher_number w) g j
unfolding pad
pad_is w g j e x m b = e ∙ ap (cipher_number w) (x ∙ ap (bit_xor g) (m ∙ ap (times_x j) b))

-- ---- what is worked out once of a key

module _ (k : List ℕ) (size : length k ≡ 32) where
  abbrev rest : List ℕ
  rest = take (length k - 16) (drop 16 k)

  rest_is : rest ≡ drop 16 k
  rest_is = take_all (length k - 16) (drop 16 k) (simp length-drop (omega arith))

  pub round_keys_are : {w : List ℕ} (n : ℕ) → n ≡ 10 → w ≡ expand (length rest / 4) n rest → w ≡ round_keys (key_from k)
  unfolding round_keys cipher_key
  round_keys_are n en e =
      let ten : n ≡ length (drop 16 k) / 4 + 6 = simp length-drop (omega arith) in
      e ∙ ap (λ (l : List ℕ). expand (length l / 4) n l) rest_is ∙ ap (λ (r : ℕ). expand (length (drop 16 k) / 4) r (drop 16 k)) ten

  pub hash_key_is : {h x : ℕ} → h ≡ x → x ≡ from_bytes (take 16 (drop 0 k)) → h ≡ hash_key (key_from k)
  unfolding hash_key
  hash_key_is e f = e ∙ f

-- the tweak as two words
pub tweak_is : (volume address : ℕ) → volume < 2 ^ 64 → address < 2 ^ 64 → volume * 2 ^ 64 + address ≡ tweak volume address
unfolding tweak from_bytes number
tweak_is volume address hv ha =
    sym
    (number_append 0 (to_bytes 8 volume) (to_bytes 8 address)
    ∙ number_scale (number 0 (to_bytes 8 volume)) (to_bytes 8 address)
    ∙ ap (λ (k : ℕ). number 0 (to_bytes 8 volume) * 256 ^ k + number 0 (to_bytes 8 address)) (length-to_bytes 8 address)
    ∙ ap₂ (λ (v a : ℕ). v * 2 ^ 64 + a) (from_to 8 volume hv) (from_to 8 address ha))

-- under a hash key of zero the tag depends neither on the plaintext nor on the tweak
zero_tag : (E : ℕ → ℕ) (T : ℕ) (P : List ℕ) → tag_block E 0 T P ≡ E (bit_xor 0 (E 0))
unfolding tag_block
zero_tag E T P = ap (λ (x : ℕ). E (bit_xor x (E 0))) (mul-zero_l (brw 0 (blocks_of P ++ (T ∷ []))))

-- so all have one tag
pub one_tag : (k : Key) → hash_key k ≡ 0 → (volume address volume' address' : ℕ) (P Q : List ℕ) → (sealed k volume address P).tag ≡ (sealed k volume' address' Q).tag
unfolding sealed sealed_by sides
one_tag k e volume address volume' address' P Q =
    let E : ℕ → ℕ = cipher_number (round_keys k) in
    ap (λ (h : ℕ). to_bytes 16 (tag_block E h (tweak volume address) P)) e
    ∙ ap (to_bytes 16) (zero_tag E (tweak volume address) P ∙ sym (zero_tag E (tweak volume' address') Q))
    ∙ ap (λ (h : ℕ). to_bytes 16 (tag_block E h (tweak volume' address') Q)) (sym e)
