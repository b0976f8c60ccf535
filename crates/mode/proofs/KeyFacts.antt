-- The round keys of a key of 32 bytes, and those of an example. Assumes nothing.
use mathlib.Core.Path.{◌≡◌, refl, ap, ◌∙◌}
use mathlib.Core.Bool.{true}
use mathlib.Core.List.{List, [], ◌∷◌, ◌++◌}
use Prim.Native.Nat.{ℕ, ◌+◌, ◌*◌, ◌/◌}
use native.Mathlib.Omega.{arith}
use lib.Bits.{bit_xor}
use lib.Dec.{lit≤}
use lib.ListN.{length, take, replicate, length-drop, length-take}
use Rattle.block.specs.Bytes.{number, from_bytes, to_bytes, blocks, blocks_of}
use Rattle.block.specs.Field.{times, double, horner, mul}
use Rattle.fips197.specs.Aes.{expand, rounds_of, cipher_number}
use Rattle.fips197.proofs.Facts.{aes_facts}
use Rattle.fips197.proofs.Schedule.{length-expand}
use Rattle.fips197.proofs.Twice.{twice, of_key, of_keys, of_others}
use Rattle.hash.specs.Brw.{cases, brw_in, brw}
use Rattle.mode.specs.Sealing.{Key, hash_key, cipher_key, round_keys, tweak, tag_block}
use Rattle.mode.specs.Scheme.{is_key}
use Rattle.mode.specs.KeyFacts.{some_key, tag_under, KeyFacts}
use Rattle.mode.proofs.Preparing.{scheme_is}
use Rattle.mode.proofs.Sizes.{key_size}

module _ (k : Key) (keyed : is_key k ≡ true) where
  sixteen : length (cipher_key k) ≡ 16
  unfolding cipher_key
  sixteen = simp (length-drop, length-take) (omega (arith, key_size k keyed))

  aes_128 : round_keys k ≡ expand 4 10 (cipher_key k)
  unfolding round_keys
  aes_128 = ap (λ (n : ℕ). expand (n / 4) (n / 4 + 6) (cipher_key k)) sixteen

  ten : rounds_of (round_keys k) ≡ 10
  ten = ap rounds_of aes_128 ∙ aes_facts.rounds 4 10 (cipher_key k) (lit≤ tt)

  eleven : length (round_keys k) ≡ 11 * 4
  eleven = ap length aes_128 ∙ length-expand 4 10 (cipher_key k) (lit≤ tt)

-- ---- the example

second_half : cipher_key some_key ≡ to_bytes 16 0x101112131415161718191a1b1c1d1e1f
unfolding to_bytes cipher_key
second_half = refl

first_half : take 16 some_key.bytes ≡ to_bytes 16 0x000102030405060708090a0b0c0d0e0f
unfolding to_bytes
first_half = refl

is_key_lem : is_key some_key ≡ true
unfolding to_bytes is_key
is_key_lem = refl

own_keys : round_keys some_key ≡ of_key 0x101112131415161718191a1b1c1d1e1f
own_keys = aes_128 some_key is_key_lem ∙ ap (expand 4 10) second_half

-- zeros have the hash zero, so their tag is the cipher of the cipher of zero
hash_zero : mul (hash_key some_key) (brw (hash_key some_key) (blocks_of (replicate 16 0) ++ (tweak 0 0 ∷ []))) ≡ 0
unfolding number from_bytes to_bytes blocks blocks_of times double horner mul cases brw_in brw hash_key tweak
hash_zero = refl

tag_twice : {v : List ℕ} (w : List ℕ) {t : ℕ} → w ≡ v → twice v ≡ t → tag_under w ≡ t
unfolding tag_block
tag_twice w e et = ap (λ (x : ℕ). cipher_number w (bit_xor x (cipher_number w 0))) hash_zero ∙ ap twice e ∙ et

pub key_facts : KeyFacts
key_facts = record {
  sixteen = sixteen;
  aes_128 = aes_128;
  ten = ten;
  eleven = eleven;
  handed_down = λ k e. scheme_is e;
  own = tag_twice (round_keys some_key) own_keys of_keys.0;
  other_half = tag_twice (expand 4 10 (take 16 some_key.bytes)) (ap (expand 4 10) first_half) of_keys.1;
  zeros = tag_twice (replicate 44 0) refl of_others.0;
  one_short = tag_twice (take 40 (round_keys some_key)) (ap (take 40) own_keys) of_others.1;
}
