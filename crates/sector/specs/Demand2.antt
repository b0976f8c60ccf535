-- Demand 2 on the calls' definitions, as one statement: proved as `demand_2`. It is for every key of 32 bytes, every volume's number, every
-- sector size s, every address, and all bytes. What the calls that take a key answer is for keys that they accept, whose hash key is not
-- zero (change request S-7); what sealing is, and combining, for all.
use Rattle.std.specs.Prelude.{◌≡◌, ◌↔◌, true, false, List, ℕ, length}
use Rattle.block.specs.Bytes.{Plain}
use Rattle.mode.specs.Sealing.{Key, Triple, tweak, sealed}
use Rattle.mode.specs.Scheme.{Place, on, wide, Sector, is_key, is_size, scheme}
use Rattle.sector.specs.Calls.{seal_call, judge_call, open_call, rebuild_call, combine_call}
use Rattle.answers.specs.Answers.{doubt_number}
use Rattle.answers.specs.Rules.{is_zero_hash}
use Rattle.verdict.specs.Verdict.{Fits, whole, doubtful, lost, clashing, Means, Side, local_side, remote_side, place_of, other_side, JudgeExact, OpenExact}

-- the number of a side
abbrev pub side_number : Side → ℕ
side_number local_side = 0
side_number remote_side = 1

-- x and g are the sector on the side d and the tag that the plaintext P of s bytes seals to, under that key, number and address
pub record SealsTo (k : Key) (volume s address : ℕ) (d : Side) (x g P : List ℕ) : Type 0 where
  pub size : Plain s P
  pub sector : x ≡ on (sealed k volume address P) (place_of d)
  pub its_tag : g ≡ (sealed k volume address P).tag

-- judging answers 0 and the plaintext exactly if whole, `81`, `82` or `83` and the plaintext exactly if doubtful at that place, and 6 or 7
-- with the output as it was exactly if lost or clashing
pub record Judges (k : Key) (volume s address : ℕ) (t : Triple) (out : List ℕ) : Type 0 where
  pub at_whole : (P : List ℕ) → (judge_call k volume address t out ≡ (0, P)) ↔ Means s (scheme k) (tweak volume address) t (whole P)
  pub at_doubtful : (d : Place) (P : List ℕ) → (judge_call k volume address t out ≡ (doubt_number d, P)) ↔ Means s (scheme k) (tweak volume address) t (doubtful d P)
  pub at_lost : (judge_call k volume address t out ≡ (6, out)) ↔ Means s (scheme k) (tweak volume address) t lost
  pub at_clashing : (judge_call k volume address t out ≡ (7, out)) ↔ Means s (scheme k) (tweak volume address) t clashing

-- opening gives P exactly for the sealed sectors and tags of that key, number, address and side, and answers 5 with the output as it was
-- exactly if no plaintext fits both
pub record Opens (k : Key) (volume s address : ℕ) (d : Side) (x g out : List ℕ) : Type 0 where
  pub gives : (P : List ℕ) → (open_call k volume address (side_number d) x g out ≡ (0, P)) ↔ SealsTo k volume s address d x g P
  pub refuses : (open_call k volume address (side_number d) x g out ≡ (5, out)) ↔ ((P : List ℕ) → SealsTo k volume s address d x g P → ⊥)

-- rebuilding writes the other side of that plaintext, and refuses alike
pub record Rebuilds (k : Key) (volume s address : ℕ) (d : Side) (x g out : List ℕ) : Type 0 where
  pub writes : (y : List ℕ) → (rebuild_call k volume address (side_number d) x g out ≡ (0, y))
      ↔ ((P : List ℕ) × SealsTo k volume s address d x g P × (y ≡ on (sealed k volume address P) (place_of (other_side d))))
  pub refuses : (rebuild_call k volume address (side_number d) x g out ≡ (5, out)) ↔ ((P : List ℕ) → SealsTo k volume s address d x g P → ⊥)

-- of every key of 32 bytes, also of one that the calls refuse for its hash key
pub record EveryKey (k : Key) (volume s : ℕ) : Type 0 where
  -- what judging compares with, in `Means`, is what sealing gives under that key, number and address
  pub the_mode : (address : ℕ) (P : List ℕ) → (scheme k).sealed (tweak volume address) P ≡ sealed k volume address P
  -- the two sides of a sealed sector combine to the plaintext
  pub combines_sealed : (address : ℕ) (P out : List ℕ) → Plain s P → length out ≡ s
      → combine_call (sealed k volume address P).local (sealed k volume address P).remote out ≡ (0, P)
  -- behind the calls, for every tweak: the verdict worked out is the one that fitting means; what is opened is what fits; at most one
  -- plaintext fits two given places
  pub judging : JudgeExact s (scheme k)
  pub opening : OpenExact s (scheme k)
  pub one_for_two : (T : ℕ) (t : Triple) (p q : Place) → (p ≡ q → ⊥) → (P Q : List ℕ) → Plain s P → Plain s Q
      → Fits (scheme k) T t p P → Fits (scheme k) T t q P → Fits (scheme k) T t p Q → Fits (scheme k) T t q Q → P ≡ Q

-- of every key that they accept
pub record Demand2 (k : Key) (volume s : ℕ) : Type 0 where
  -- sealing equals the mode, whatever the three outputs held
  pub seals : (address : ℕ) (P : List ℕ) (out : Triple) → Plain s P → ((p : Place) → length (on out p) ≡ wide s p)
      → seal_call k volume address P out ≡ (0, sealed k volume address P)
  -- for all bytes in sectors and tags of these lengths, whatever the output held: judging, opening and rebuilding answer what is meant
  pub judges : (address : ℕ) (t : Triple) (out : List ℕ) → Sector s t → length out ≡ s → Judges k volume s address t out
  pub opens : (address : ℕ) (d : Side) (x g out : List ℕ) → Plain s x → Plain 16 g → length out ≡ s → Opens k volume s address d x g out
  pub rebuilds : (address : ℕ) (d : Side) (x g out : List ℕ) → Plain s x → Plain 16 g → length out ≡ s → Rebuilds k volume s address d x g out
  -- of a sealed sector: it judges whole; either side and the tag open to the plaintext and rebuild the other side
  pub judges_sealed : (address : ℕ) (P out : List ℕ) → Plain s P → length out ≡ s → judge_call k volume address (sealed k volume address P) out ≡ (0, P)
  pub opens_sealed : (address : ℕ) (d : Side) (P out : List ℕ) → Plain s P → length out ≡ s
      → open_call k volume address (side_number d) (on (sealed k volume address P) (place_of d)) (sealed k volume address P).tag out ≡ (0, P)
  pub rebuilds_sealed : (address : ℕ) (d : Side) (P out : List ℕ) → Plain s P → length out ≡ s
      → rebuild_call k volume address (side_number d) (on (sealed k volume address P) (place_of d)) (sealed k volume address P).tag out ≡ (0, on (sealed k volume address P) (place_of (other_side d)))

-- under every key of 32 bytes, every sector size and every number
abbrev pub Demand2Whole : Type 0
Demand2Whole = (k : Key) (volume s : ℕ) → is_key k ≡ true → is_size s ≡ true → EveryKey k volume s × (is_zero_hash k ≡ false → Demand2 k volume s)

-- document 01's examples at the bounds: sizes 15 and 4,112 are refused, 16 and 4,096 pass
pub record SizeBounds : Type 0 where
  pub size_15 : is_size 15 ≡ false
  pub size_16 : is_size 16 ≡ true
  pub size_4096 : is_size 4096 ≡ true
  pub size_4112 : is_size 4112 ≡ false
