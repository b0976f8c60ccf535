-- What the key's rules come to. Assumes nothing.
use mathlib.Core.Path.{◌≡◌, ap, ◌∙◌}
use mathlib.Core.Logic.{◌↔◌}
use mathlib.Core.Bool.{true}
use Prim.Native.Nat.{ℕ}
use native.Mathlib.Omega.{arith}
use lib.ListN.{length, take, replicate}
use lib.Seq.{length-take-le}
use borrow.Author.Tests.{eqb-true, eq-eqb}
use Rattle.block.specs.Bytes.{from_bytes}
use Rattle.block.proofs.Numbers.{zeros_number, number_zeros}
use Rattle.mode.specs.Sealing.{Key, hash_key}
use Rattle.mode.specs.Scheme.{is_key}
use Rattle.mode.proofs.Sizes.{key_size}
use Rattle.answers.specs.Rules.{is_zero_hash}
use Rattle.answers.specs.Keys.{KeysRefused}

zero_bytes : (k : Key) → is_key k ≡ true → (is_zero_hash k ≡ true) ↔ (take 16 k.bytes ≡ replicate 16 0)
unfolding is_zero_hash hash_key
zero_bytes k e = (
  λ z.
      let long : length (take 16 k.bytes) ≡ 16 = length-take-le 16 k.bytes (omega (arith, key_size k e)) in
      number_zeros (take 16 k.bytes) (eqb-true _ 0 z) ∙ ap (λ (n : ℕ). replicate n 0) long,
  λ z. eq-eqb _ 0 (ap from_bytes z ∙ zeros_number 16),
)

pub keys_refused : KeysRefused
keys_refused = record {
  zero_bytes = zero_bytes;
  another_length = λ k rest e. simp e;
  zero_hash = λ k rest e z. simp (e, z);
  goes_on = λ k rest e z. simp (e, z);
}
