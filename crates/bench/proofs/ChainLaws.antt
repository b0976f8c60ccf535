-- The steps of a chain. Assumes nothing.
use mathlib.Core.Path.{◌≡◌, refl, sym, ap₂}
use Prim.Native.Nat.{ℕ, zero, suc, ◌+◌, ◌*◌, ◌^◌, ◌<◌}
use lib.Pow.{high, low}
use lib.Bits.{bit_xor}
use Rattle.std.proofs.Common.{add-one}
use Rattle.bench.specs.Chain.{iterate, folded}

module _ (f : ℕ → ℕ) where
  pub none : (x : ℕ) → iterate 0 f x ≡ x
  unfolding iterate
  none x = refl

  last : (k x : ℕ) → iterate (suc k) f x ≡ f (iterate k f x)
  unfolding iterate
  last zero x = refl
  last (suc k) x = last k (f x)

  pub one_more : (k x : ℕ) → iterate (k + 1) f x ≡ f (iterate k f x)
  one_more k x = rw add-one (last k x)

pub folded_words : (h l : ℕ) → l < 2 ^ 64 → bit_xor h l ≡ folded (h * 2 ^ 64 + l)
unfolding folded
folded_words h l small = sym (ap₂ bit_xor (high h 64 small) (low h 64 small))
