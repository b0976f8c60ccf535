-- What the tests of a key and of a sector's size say. Assumes nothing.
use mathlib.Core.Path.{◌≡◌}
use mathlib.Core.Bool.{true, ◌&&◌}
use Prim.Native.Nat.{ℕ, ◌≤◌, ◌%◌}
use lib.Dec.{eqb, leb}
use lib.ListN.{length}
use borrow.Author.Tests.{eqb-true, leb-true}
use Rattle.block.proofs.Lists.{and_left, and_right}
use Rattle.mode.specs.Sealing.{Key}
use Rattle.mode.specs.Scheme.{is_key, is_size}

pub key_size : (k : Key) → is_key k ≡ true → length k.bytes ≡ 32
unfolding is_key
key_size k e = eqb-true (length k.bytes) 32 e

module _ (s : ℕ) (e : is_size s ≡ true) where
  above : (leb s 4096 && eqb (s % 16) 0) ≡ true
  unfolding is_size
  above = and_right (leb 16 s) (leb s 4096 && eqb (s % 16) 0) e

  pub size_le : s ≤ 4096
  size_le = leb-true s 4096 (and_left (leb s 4096) (eqb (s % 16) 0) above)

  pub size_whole : s % 16 ≡ 0
  size_whole = eqb-true (s % 16) 0 (and_right (leb s 4096) (eqb (s % 16) 0) above)
