-- Demand 3 is not empty: on every volume that the calls accept, events lead from any images to each state of a sector that the machine can
-- keep, and proper calls are there. Proved as `reached`.
use Rattle.std.specs.Prelude.{◌≡◌, true, false, List, ℕ, ◌≤◌, ◌<◌}
use Rattle.std.proofs.Math.Option.{Option}
use Rattle.block.specs.Bytes.{Plain}
use Rattle.mode.specs.Sealing.{Triple}
use Rattle.mode.specs.Scheme.{Place, is_key, is_size}
use Rattle.answers.specs.Rules.{Args, Volume, is_zero_hash}
use Rattle.history.specs.Volume.{first, mend, mirror}
use Rattle.history.specs.Machine.{Held, kept, start}
use Rattle.history.specs.Power.{Event, Images, AllAllowed, run, hold}
use Rattle.history.specs.History.{Proper, ProperRead}

-- a key, with its hash key, a size and a count that the calls accept, and any number
pub record AcceptedVolume (vol : Volume) : Type 0 where
  pub key : is_key vol.key ≡ true
  pub hash : is_zero_hash vol.key ≡ false
  pub size : is_size vol.size ≡ true
  pub least : 1 ≤ vol.count
  pub most : vol.count ≤ 65536

-- from the images v and all sectors gone: events, all allowed, after which the machine holds x of sector i, and a proper read, a proper mend
-- and, with every plaintext of s bytes, a proper first stage of it
pub record Reaches (vol : Volume) (v : Triple) (i : ℕ) (x : Held) : Type 0 where
  pub events : List Event
  pub allowed : AllAllowed mirror vol v events
  pub holds : hold mirror vol v start events i ≡ x
  pub args : Args
  pub out : List ℕ
  pub read_proper : ProperRead vol (run mirror vol v events) i args out
  pub mend_proper : Proper vol (run mirror vol v events) i args mend
  pub first_proper : (Q : List ℕ) → Plain vol.size Q → Proper vol (run mirror vol v events) i args (first Q)

-- every plaintext of s bytes, without doubt and with each place in doubt
abbrev pub Reached : Type 0
Reached = (vol : Volume) → AcceptedVolume vol → (v : Triple) → Images vol.size vol.count v
    → (i : ℕ) → i < vol.count → (P : List ℕ) → Plain vol.size P → (d : Option Place) → Reaches vol v i (kept P d)
