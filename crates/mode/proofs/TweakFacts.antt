-- The tweak of a number and an address. Assumes nothing.
use mathlib.Core.Path.{◌≡◌, refl, sym, ap, ◌∙◌}
use mathlib.Core.List.{List, [], ◌∷◌, ◌++◌}
use Prim.Native.Nat.{ℕ, ◌+◌, ◌*◌, ◌/◌, ◌%◌, ◌^◌, ◌<◌}
use lib.Arith.{digits_div, digits_mod}
use lib.Bits.{bit_xor}
use Rattle.block.specs.Bytes.{from_bytes, to_bytes, blocks_of}
use Rattle.block.specs.Field.{mul}
use Rattle.block.proofs.Numbers.{to_bytes_two}
use Rattle.fips197.specs.Aes.{cipher_number}
use Rattle.hash.specs.Brw.{brw}
use Rattle.mode.specs.Sealing.{Key, hash_key, round_keys, tweak, tag_block, sides, sealed_by, sealed}
use Rattle.mode.specs.TweakFacts.{tweak_before, sealed_before, TweakFacts}
use Rattle.mode.proofs.Laws.{tweak_is}

halves : (volume address : ℕ) → volume < 2 ^ 64 → address < 2 ^ 64 → to_bytes 16 (tweak volume address) ≡ to_bytes 8 volume ++ to_bytes 8 address
halves volume address hv ha = ap (to_bytes 16) (sym (tweak_is volume address hv ha)) ∙ to_bytes_two volume address ha

in_the_tag : (k : Key) (volume address : ℕ) (P : List ℕ) → let E : ℕ → ℕ = cipher_number (round_keys k) in
    (sealed k volume address P).tag
    ≡ to_bytes 16 (E (bit_xor (mul (hash_key k) (brw (hash_key k) (blocks_of P ++ (from_bytes (to_bytes 8 volume ++ to_bytes 8 address) ∷ [])))) (E 0)))
unfolding sealed sealed_by sides tag_block tweak
in_the_tag k volume address P = refl

number_0 : (address : ℕ) → tweak 0 address ≡ tweak_before address
unfolding tweak to_bytes
number_0 address = refl

seals_as_before : (k : Key) (address : ℕ) (P : List ℕ) → sealed k 0 address P ≡ sealed_before k address P
unfolding sealed tweak to_bytes
seals_as_before k address P = refl

one_pair : (volume address volume' address' : ℕ) → volume < 2 ^ 64 → address < 2 ^ 64 → volume' < 2 ^ 64 → address' < 2 ^ 64
    → tweak volume address ≡ tweak volume' address' → (volume ≡ volume') × (address ≡ address')
one_pair volume address volume' address' hv ha hw hb e =
    let same : volume * 2 ^ 64 + address ≡ volume' * 2 ^ 64 + address' = tweak_is volume address hv ha ∙ e ∙ sym (tweak_is volume' address' hw hb) in
    (sym (digits_div volume ha) ∙ ap (λ (x : ℕ). x / 2 ^ 64) same ∙ digits_div volume' hb, sym (digits_mod volume ha) ∙ ap (λ (x : ℕ). x % 2 ^ 64) same ∙ digits_mod volume' hb)

pub tweak_facts : TweakFacts
tweak_facts = record { halves = halves; in_the_tag = in_the_tag; number_0 = number_0; seals_as_before = seals_as_before; one_pair = one_pair }
