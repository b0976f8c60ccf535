-- What the functions are lent. Assumes nothing: these are definitions.
use Rattle.std.specs.Prelude.{◌≡◌, List, ℕ, ◌+◌, ◌*◌, ◌<◌, ◌≤◌, ◌%◌, length}
use Rattle.mode.specs.Sealing.{Triple, triple}
use Rattle.history.specs.Volume.{sector_of}

-- a sector size s, a count n, and images of l, g and r bytes for n sectors
pub record Room (s n l g r : ℕ) : Type 0 where
  pub blocks : s % 16 ≡ 0
  pub most : s ≤ 4096
  pub some_sector : 1 ≤ n
  pub count : n ≤ 65536
  pub local_size : l ≡ n * s
  pub tag_size : g ≡ n * 16
  pub remote_size : r ≡ n * s

-- a sector size s, and a number i whose parts lie within images of l, g and r bytes
pub record Within (s i l g r : ℕ) : Type 0 where
  pub blocks : s % 16 ≡ 0
  pub most : s ≤ 4096
  pub number : i < 65536
  pub local_end : i * s + s ≤ l
  pub tag_end : i * 16 + 16 ≤ g
  pub remote_end : i * s + s ≤ r

-- three slices of a sector's size s: for a plaintext, and two to work in
pub record Scratch (s : ℕ) (plain sum scratch : List ℕ) : Type 0 where
  pub plain_size : length plain ≡ s
  pub sum_size : length sum ≡ s
  pub scratch_size : length scratch ≡ s

-- sector i of three images
abbrev pub places_of : ℕ → ℕ → List ℕ → List ℕ → List ℕ → Triple
places_of s i l g r = sector_of s i (triple l g r)
