-- Document 01's rule for a power cut, as it reads there, and that the cuts of the theorem's lists are exactly these: proved as `cut_exact`.
use Rattle.std.specs.Prelude.{◌≡◌, ◌↔◌, ◌⊎◌, Bool, true, false, ℕ, ◌<◌, length}
use mathlib.Core.List.{List, Memᴰ}
use Rattle.std.proofs.Math.Option.{none, some}
use Rattle.block.specs.Bytes.{Plain}
use Rattle.mode.specs.Sealing.{Triple}
use Rattle.mode.specs.Scheme.{Place, local, tag, remote, on, wide, Scheme}
use Rattle.verdict.specs.Verdict.{Fits}
use Rattle.answers.specs.Rules.{Args, Volume}
use Rattle.history.specs.Volume.{Call, second, sector_of, writes, sector, sealing, refusal, mirror}
use Rattle.history.specs.Power.{Cut, Fate, finished, cut, call, damage, LentBytes, told, leaves_call, leaves, Allowed}
use Rattle.history.specs.Machine.{told_cut}
use Rattle.history.specs.HistoryFrom.{AnyBytes}

-- What a cut in a call that is not refused leaves of the images v: the images w. A set of the call's writes had begun, in any order.
pub record CutLeaves (v : Triple) (a : Args) (c : Call) (w : Triple) : Type 0 where
  pub begun : Place → Bool
  pub writes_begun : (p : Place) → begun p ≡ true → Memᴰ p (writes a.volume.size (sealing mirror a) a.number (sector v a) c).places
  -- a local or remote sector whose write had begun holds any s bytes
  pub any_local : begun local ≡ true → Plain a.volume.size (sector w a).local
  pub any_remote : begun remote ≡ true → Plain a.volume.size (sector w a).remote
  -- a tag whose write had begun is old or new
  pub old_or_new : begun tag ≡ true
      → ((sector w a).tag ≡ (sector v a).tag)
      ⊎ ((sector w a).tag ≡ ((sealing mirror a).sealed a.number (writes a.volume.size (sealing mirror a) a.number (sector v a) c).plain).tag)
  -- every place not yet begun is as before,
  pub not_begun : (p : Place) → begun p ≡ false → on (sector w a) p ≡ on (sector v a) p
  -- and so is every other sector
  pub others : (j : ℕ) → (j ≡ a.number → ⊥) → sector_of a.volume.size j w ≡ sector_of a.volume.size j v
  -- no image grows or shrinks
  pub lengths : (p : Place) → length (on w p) ≡ length (on v p)

pub record CutExact : Type 0 where
  -- a call that is or would be refused writes nothing
  pub refused : (v : Triple) (a : Args) (c : Call) (f : Fate) (k : ℕ) → refusal mirror v a c ≡ some k → leaves_call mirror v a c f ≡ v
  -- the outcomes of a cut that is allowed in a list are those of the rule, all of them and no others
  pub accepted : (vol : Volume) (v : Triple) → AnyBytes v → (a : Args) → a.volume ≡ vol → (c : Call) → LentBytes c → refusal mirror v a c ≡ none → (w : Triple)
      → ((k : Cut) × Allowed mirror vol v (call a c (cut k)) × (leaves mirror vol v (call a c (cut k)) ≡ w)) ↔ CutLeaves v a c w
  -- of a cut second stage the machine is told that the tag is new exactly if the tag that is left is P's
  pub tag_told_is : (S : Scheme) (i : ℕ) (t : Triple) (P : List ℕ) (k : Cut) → (told S i t (second P) (cut k) ≡ told_cut true) ↔ Fits S i t tag P
  -- what else is allowed: every finished call with the volume's key, number, s and n, every call that is or would be refused, with any
  -- arguments, and damage of any bytes to any place of any sector
  pub finished_allowed : (vol : Volume) (v : Triple) (a : Args) (c : Call) → a.volume ≡ vol → LentBytes c → Allowed mirror vol v (call a c finished)
  pub refused_allowed : (vol : Volume) (v : Triple) (a : Args) (c : Call) (k : ℕ) → LentBytes c → refusal mirror v a c ≡ some k → Allowed mirror vol v (call a c finished)
  pub damage_allowed : (vol : Volume) (v : Triple) (p : Place) (i : ℕ) (b : List ℕ) → i < vol.count → Plain (wide vol.size p) b → Allowed mirror vol v (damage p i b)
