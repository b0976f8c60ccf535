-- The history of a volume with writes is not empty: on every volume that the calls accept, from any images, there is a list in which power
-- goes in each of the calls of a write to a sector that is kept with zeros. None of these calls is refused. Proved as `each_cut`. A write mends only a
-- doubtful sector, so for the mend there has to be damage that leaves a sealed sector doubtful, and not clashing.
use Rattle.std.specs.Prelude.{◌≡◌, List, [], ◌∷◌, ◌++◌, ℕ, ◌<◌, length, replicate}
use Rattle.std.proofs.Math.Option.{Option, none}
use Rattle.block.specs.Bytes.{Plain}
use Rattle.mode.specs.Sealing.{Triple}
use Rattle.mode.specs.Scheme.{Place, wide}
use Rattle.verdict.specs.Verdict.{Means, doubtful}
use Rattle.answers.specs.Rules.{Args, Volume}
use Rattle.history.specs.Volume.{Call, first, second, third, mend, read, store, mirror}
use Rattle.history.specs.Machine.{kept, State, start}
use Rattle.history.specs.Power.{Cut, cut, Images, CutOf}
use Rattle.history.specs.History.{own}
use Rattle.history.specs.Witness.{AcceptedVolume}
use Rattle.suspects.specs.History.{Lent, lent_refusal, run_lent}
use Rattle.writes.specs.History.{WriteCut, cut_at, LaptopEvent, write, cut_call, events, AllLaptopAllowed, run_laptop, hold_laptop}

module _ (vol : Volume) where
  -- the bytes x in place d of a sector sealed with zeros leave it doubtful there
  abbrev pub Doubt : ℕ → Place → List ℕ → Type 0
  Doubt i d x =
      let zeros : List ℕ = replicate vol.size 0 in
      Plain (wide vol.size d) x × Means vol.size (own mirror vol) i (store d x ((own mirror vol).sealed i zeros)) (doubtful d zeros)

  -- a call or a write of the volume's sector i
  abbrev pub to_sector : ℕ → Args
  to_sector i = record { volume = vol; number = i }

  -- The event e, from the images v and where the machine holds h, is a write of P to sector i, which is kept with zeros. Power goes in its
  -- call c, which is not refused, and leaves k there.
  pub record CutIn (v : Triple) (h : State) (e : LaptopEvent) (i : ℕ) (P : List ℕ) (k : Cut) (c : Call) : Type 0 where
    pub map : List ℕ
    pub power : WriteCut
    pub is_write : e ≡ write (to_sector i) P map (cut_at power)
    pub doubt : Option Place
    pub kept_is : h i ≡ kept (replicate vol.size 0) doubt
    -- the calls before it, and the map that it is lent
    pub earlier : List Lent
    pub last : List ℕ
    pub ends : events v e ≡ earlier ++ (cut_call (to_sector i) c k last ∷ [])
    pub accepted : lent_refusal (run_lent vol v earlier) (to_sector i) c last ≡ none

  -- there is such an event in the list es
  pub record Met (v : Triple) (h : State) (es : List LaptopEvent) (i : ℕ) (P : List ℕ) (k : Cut) (c : Call) : Type 0 where
    pub before : List LaptopEvent
    pub event : LaptopEvent
    pub behind : List LaptopEvent
    pub splits : es ≡ before ++ (event ∷ behind)
    pub cut_in : CutIn (run_laptop vol v before) (hold_laptop vol v h before) event i P k c

  -- events, all allowed, in which power goes in each call of a write of P, and after which sector i is kept with P, without doubt
  pub record EachCut (v : Triple) (i : ℕ) (P : List ℕ) (k : Cut) : Type 0 where
    pub list : List LaptopEvent
    pub allowed : AllLaptopAllowed vol v list
    pub in_read : Met v start list i P k (read (length P))
    pub in_mend : Met v start list i P k mend
    pub in_first : Met v start list i P k (first P)
    pub in_second : Met v start list i P k (second P)
    pub in_third : Met v start list i P k (third P)
    pub holds : hold_laptop vol v start list i ≡ kept P none

-- whatever a cut leaves
abbrev pub EveryCut : Type 0
EveryCut = (vol : Volume) → AcceptedVolume vol → (v : Triple) → Images vol.size vol.count v → (i : ℕ) → i < vol.count
    → (P : List ℕ) → Plain vol.size P → (k : Cut) → CutOf vol.size (cut k)
    → (d : Place) (x : List ℕ) → Doubt vol i d x → EachCut vol v i P k
