-- Demand 3 in more general forms: from any state that agrees with the images, and from images of any lengths. Proved as `general`.
use Rattle.std.specs.Prelude.{◌≡◌, List, ℕ, ◌<◌}
use Rattle.std.proofs.Math.Option.{some}
use Rattle.block.specs.Bytes.{Bytes, Plain}
use Rattle.mode.specs.Sealing.{Triple}
use Rattle.mode.specs.Scheme.{Place, on, Scheme}
use Rattle.verdict.specs.Verdict.{Fits}
use Rattle.history.specs.Volume.{mirror, Schemes}
use Rattle.history.specs.Machine.{Held, gone, kept, State, start}
use Rattle.answers.specs.Rules.{Volume}
use Rattle.history.specs.Power.{Event, Images, AllAllowed, run, hold}
use Rattle.history.specs.History.{at, own, Promised}

-- a kept plaintext, of s bytes, fits every place that is not in doubt
abbrev pub Agree : ℕ → Scheme → ℕ → Triple → Held → Type 0
Agree s S i t gone = Unit {0}
Agree s S i t (kept P d) = Plain s P × ((p : Place) → (d ≡ some p → ⊥) → Fits S i t p P)

-- images of any bytes and any lengths
abbrev pub AnyBytes : Triple → Type 0
AnyBytes v = (p : Place) → Bytes (on v p)

module _ (seals : Schemes) where
  -- a state that agrees with the images
  pub record Agrees (vol : Volume) (v : Triple) (h : State) : Type 0 where
    pub images : Images vol.size vol.count v
    pub agree : (i : ℕ) → i < vol.count → Agree vol.size (own seals vol) i (at vol v i) (h i)

  -- after every list of events, from the images v and the state h
  abbrev pub Always : Volume → Triple → State → Type 0
  Always vol v h = (es : List Event) → AllAllowed seals vol v es → Promised seals vol (run seals vol v es) (hold seals vol v h es)

  -- from any state that agrees with the images; and it still agrees afterwards, so the images have kept their lengths
  abbrev pub HistoryFrom : Type 0
  HistoryFrom = (vol : Volume) (v : Triple) (h : State) → Agrees vol v h
      → Always vol v h × ((es : List Event) → AllAllowed seals vol v es → Agrees vol (run seals vol v es) (hold seals vol v h es))

  -- from images of any bytes and any lengths, all sectors gone
  abbrev pub HistoryAny : Type 0
  HistoryAny = (vol : Volume) (v : Triple) → AnyBytes v → Always vol v start

pub record General : Type 0 where
  pub from_agreeing : HistoryFrom mirror
  pub from_any_lengths : HistoryAny mirror
