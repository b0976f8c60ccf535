-- What passing refusals 1, 14, 2 and 8 shows of the images' lengths, and the size of scratch slices. Assumes nothing.
use mathlib.Core.Path.{◌≡◌, sym, subst}
use mathlib.Core.List.{List}
use Prim.Native.Nat.{ℕ, ◌<◌, ◌≤◌}
use native.Mathlib.Omega.{arith}
use lib.ListN.{length, take, replicate, length-take, length-replicate}
use Rattle.block.proofs.Parts.{part_end}
use Rattle.mode.specs.Scheme.{local, tag, remote}
use Rattle.mode.specs.Sealing.{Triple}
use Rattle.mode.proofs.Sizes.{size_whole, size_le}
use Rattle.answers.specs.Rules.{Volume}
use Rattle.answers.proofs.Passing.{Common}
use Rattle.answers.proofs.Shapes.{shape_facts, count_le}
use Rattle.images.specs.Lent.{Room, Within, Scratch}

pub has_room : (v : Triple) (vol : Volume) → Common v vol → Room vol.size vol.count (length v.local) (length v.tag) (length v.remote)
has_room v vol c =
    let s = vol.size in
    let f = shape_facts s vol.count v c.shape in
    record { blocks = size_whole s c.size; most = size_le s c.size; some_sector = f.0; count = count_le s vol.count v c.shape; local_size = f.1 local; tag_size = f.1 tag; remote_size = f.1 remote }

-- each sector's parts lie within the images
pub within_room : (s n i l g r : ℕ) → Room s n l g r → i < n → Within s i l g r
within_room s n i l g r z h =
    let p = part_end s n i h in
    let q = part_end 16 n i h in
    record { blocks = z.blocks; most = z.most; number = omega arith; local_end = omega arith; tag_end = omega arith; remote_end = omega arith }

pub within_same : {m s i l g r : ℕ} → m ≡ s → Within s i l g r → Within m i l g r
within_same {i = i} {l} {g} {r} e z = subst (λ (n : ℕ). Within n i l g r) (sym e) z

-- the front of an array of 4,096
pub prefix_size : (s x : ℕ) → s ≤ 4096 → length (take {A = ℕ} s (replicate 4096 x)) ≡ s
prefix_size s x h = simp (length-take, length-replicate) (omega arith)

pub scratch_sized : (s : ℕ) → s ≤ 4096 → let z : List ℕ = take s (replicate 4096 0) in Scratch s z z z
scratch_sized s h = let e = prefix_size s 0 h in record { plain_size = e; sum_size = e; scratch_size = e }
