-- What the volume's number does in the calls on a volume (change request S-2): one statement, proved as `number_facts`.
use Rattle.std.specs.Prelude.{◌≡◌, List, ℕ}
use Rattle.mode.specs.Sealing.{Triple, Key, sealed}
use Rattle.mode.specs.Scheme.{Scheme, scheme}
use Rattle.mode.specs.TweakFacts.{sealed_before}
use Rattle.answers.specs.Rules.{Args, volume_of, args}
use Rattle.history.specs.Volume.{Call, Schemes, sealing, mirror, outcome, read_outcome}
use Rattle.history.specs.Power.{Fate, leaves_call}
use Rattle.history.specs.History.{own}

-- the mode of document 01, whose tweak has no number
abbrev pub mirror_before : Key → Scheme
mirror_before k = record { sealed = sealed_before k; open_local = (scheme k).open_local; open_remote = (scheme k).open_remote }

-- the calls over it: whatever the number
abbrev pub unnumbered : Schemes
unnumbered k volume = mirror_before k

pub record NumberFacts : Type 0 where
  -- what a call compares with and writes, and what is promised of a sector, is the mode's sealing under the key and the number that the
  -- call was given, at the sector's number
  pub calls_seal : (k : Key) (volume s n i : ℕ) (P : List ℕ) → (sealing mirror (args k volume s n i)).sealed i P ≡ sealed k volume i P
  pub promises_seal : (k : Key) (volume s n i : ℕ) (P : List ℕ) → (own mirror (volume_of k volume s n)).sealed i P ≡ sealed k volume i P
  -- the sealing of a volume with number 0 is the one of before,
  pub seals_as_before : (k : Key) → mirror k 0 ≡ mirror_before k
  -- so a call on it answers what it did, and leaves the images and the output as it did, finished or cut, but for refusal 14 (change
  -- request S-7), which the rules on both sides have
  pub calls_as_before : (v : Triple) (a : Args) (c : Call) → a.volume.number ≡ 0 → outcome mirror v a c ≡ outcome unnumbered v a c
  pub reads_as_before : (v : Triple) (a : Args) (out : List ℕ) → a.volume.number ≡ 0 → read_outcome mirror v a out ≡ read_outcome unnumbered v a out
  pub leaves_as_before : (v : Triple) (a : Args) (c : Call) (f : Fate) → a.volume.number ≡ 0 → leaves_call mirror v a c f ≡ leaves_call unnumbered v a c f
