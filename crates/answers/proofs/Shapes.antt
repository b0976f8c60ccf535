-- The shape of three images. Assumes nothing.
use mathlib.Core.Path.{◌≡◌}
use mathlib.Core.Bool.{true, ◌&&◌}
use Prim.Native.Nat.{ℕ, ◌*◌, ◌≤◌}
use lib.Dec.{eqb, leb}
use lib.ListN.{length}
use borrow.Author.Tests.{eqb-true, leb-true}
use Rattle.block.proofs.Lists.{and_left, and_right}
use Rattle.mode.specs.Sealing.{Triple}
use Rattle.mode.specs.Scheme.{Place, local, tag, remote, on, wide}
use Rattle.answers.specs.Rules.{shape, is_shape}

-- ---- what it says

pub shape_facts : (s n : ℕ) (v : Triple) → is_shape s n v ≡ true → (1 ≤ n) × ((p : Place) → length (on v p) ≡ n * wide s p)
unfolding is_shape shape
shape_facts s n v e = (leb-true 1 n (and_left (leb 1 n) _ e), go)
  where
    lengths_hold : (eqb (length v.local) (n * s) && (eqb (length v.remote) (n * s) && eqb (length v.tag) (n * 16))) ≡ true
    lengths_hold = and_right (leb n 65536) _ (and_right (leb 1 n) _ e)

    go : (p : Place) → length (on v p) ≡ n * wide s p
    go local = eqb-true (length v.local) (n * s) (and_left (eqb (length v.local) (n * s)) _ lengths_hold)
    go tag =
        eqb-true (length v.tag) (n * 16)
        (and_right (eqb (length v.remote) (n * s)) _ (and_right (eqb (length v.local) (n * s)) _ lengths_hold))
    go remote =
        eqb-true (length v.remote) (n * s)
        (and_left (eqb (length v.remote) (n * s)) _ (and_right (eqb (length v.local) (n * s)) _ lengths_hold))

pub count_le : (s n : ℕ) (v : Triple) → is_shape s n v ≡ true → n ≤ 65536
unfolding is_shape shape
count_le s n v e = leb-true n 65536 (and_left (leb n 65536) _ (and_right (leb 1 n) _ e))
