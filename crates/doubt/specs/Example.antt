-- Power in each of the calls of a write, on one volume, without a premise (change request S-6): damage to the tag that leaves a sealed sector
-- doubtful, and not clashing, is proved as `some_doubt`, and a list in which each call is cut as `some_cuts`.
use Rattle.std.specs.Prelude.{List, ℕ, replicate}
use Rattle.block.specs.Bytes.{Plain}
use Rattle.mode.specs.KeyFacts.{some_key}
use Rattle.mode.specs.Scheme.{tag}
use Rattle.mode.specs.Sealing.{Triple}
use Rattle.answers.specs.Rules.{Volume, volume_of}
use Rattle.history.specs.Power.{Cut, cut, Images, CutOf}
use Rattle.writes.specs.Witness.{Doubt, EachCut}

-- one sector of 16 bytes, under a key whose first half, which is the hash key, is not zero
abbrev pub some_volume : Volume
some_volume = volume_of some_key 0 16 1

-- a tag of zeros leaves it doubtful
abbrev pub SomeDoubt : Type 0
SomeDoubt = Doubt some_volume 0 tag (replicate 16 0)

-- from any images, with any plaintext, and whatever the cuts leave
abbrev pub SomeCuts : Type 0
SomeCuts = (v : Triple) → Images 16 1 v → (P : List ℕ) → Plain 16 P → (k : Cut) → CutOf 16 (cut k) → EachCut some_volume v 0 P k
