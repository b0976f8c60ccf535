-- Demand 3: the history of a volume. Assumes nothing but the laws of the sealing.
use mathlib.Core.Path.{◌≡◌, refl, sym, ◌∙◌, ap, subst}
use mathlib.Core.Logic.{◌⊎◌, inl, inr}
use mathlib.Core.List.{List, [], ◌∷◌}
use mathlib.Core.Option.{Option, none, some}
use Prim.Native.Nat.{ℕ}
use native.Mathlib.Decide.{ℕ_discrete}
use Rattle.mode.specs.Sealing.{Triple}
use Rattle.mode.specs.Scheme.{Place}
use Rattle.answers.specs.Rules.{Args, Volume}
use Rattle.history.specs.Volume.{Call, refusal, Schemes}
use Rattle.history.specs.Machine.{Held, gone, after_damage, State, put, machine, start}
use Rattle.history.specs.Power.{Fate, Event, call, damage, Images, leaves_call, leaves, seen, Allowed, AllAllowed, run, hold}
use Rattle.history.specs.History.{at, own, Promise, Promised}
use Rattle.history.specs.HistoryFrom.{Agree, AnyBytes, Agrees, HistoryFrom, HistoryAny}
use Rattle.history.proofs.Refusals.{accepted_images}
use Rattle.history.proofs.Images.{any_bytes, bytes_write, leaves_refused, AllSound}
use Rattle.history.proofs.Events.{put_same, put_other, machine_refused, event_step, list_step}
use Rattle.history.proofs.Promises.{promised_by, promised}

-- From any state in which each kept plaintext fits every place not in doubt.
pub history_from : (seals : Schemes) → AllSound seals → HistoryFrom seals
history_from seals sound vol v h g =
    let keeps : (es : List Event) → AllAllowed seals vol v es → Agrees seals vol (run seals vol v es) (hold seals vol v h es) = λ es m. list_step seals sound vol es v h g m in
    (λ es m. promised seals sound vol (run seals vol v es) (hold seals vol v h es) (keeps es m), keeps)

-- All gone agrees with any images.
pub start_agrees : (seals : Schemes) (vol : Volume) (v : Triple) → Images vol.size vol.count v → Agrees seals vol v start
start_agrees seals vol v I = record { images = I; agree = λ i lt. tt }

-- ---- images of any lengths: no call is accepted until damage has made the lengths right, and till then all stays gone

abbrev pub AllGone : State → Type 0
AllGone h = (i : ℕ) → h i ≡ gone

pub gone_hurt : (h : State) (p : Place) (i : ℕ) → AllGone h → AllGone (put i (after_damage p (h i)) h)
gone_hurt h p i z j = go (ℕ_discrete j i)
  where
    go : Dec (j ≡ i) → put i (after_damage p (h i)) h j ≡ gone
    go (yes e) = ap (put i (after_damage p (h i)) h) e ∙ put_same i (after_damage p (h i)) h ∙ ap (after_damage p) (z i)
    go (no n) = put_other i (after_damage p (h i)) h j n ∙ z j

module _ (seals : Schemes) (sound : AllSound seals) (vol : Volume) where
  record Either (v : Triple) (h : State) : Type 0 where
    bytes : AnyBytes v
    cases : Agrees seals vol v h ⊎ AllGone h

  from_agrees : (v : Triple) (h : State) → Agrees seals vol v h → Either v h
  from_agrees v h g = record { bytes = any_bytes vol.size vol.count v g.images; cases = inl g }

  gone_agrees : (v : Triple) (h : State) → Images vol.size vol.count v → AllGone h → Agrees seals vol v h
  gone_agrees v h I z = record { images = I; agree = λ i lt. subst (λ (x : Held). Agree vol.size (own seals vol) i (at vol v i) x) (sym (z i)) tt }

  either_call : (v : Triple) (h : State) → AnyBytes v → AllGone h → (a : Args) (c : Call) (f : Fate) → Allowed seals vol v (call a c f) → (r : Option ℕ) → refusal seals v a c ≡ r
      → Either (leaves_call seals v a c f) (machine h (seen seals vol v (call a c f)))
  either_call v h b z a c f m none e =
      let I : Images vol.size vol.count v = subst (λ (u : Volume). Images u.size u.count v) (m.0 e) (accepted_images seals v a c b e) in
      from_agrees _ _ (event_step seals sound vol v h (gone_agrees v h I z) (call a c f) m)
  either_call v h b z a c f m (some k) e =
      subst (λ (w : Triple). Either w (machine h (seen seals vol v (call a c f)))) (sym (leaves_refused seals v a c f k e))
      (subst (λ (y : State). Either v y) (sym (machine_refused seals vol v h a c f k e)) (record { bytes = b; cases = inr z }))

  either_step : (v : Triple) (h : State) → Either v h → (e : Event) → Allowed seals vol v e → Either (leaves seals vol v e) (machine h (seen seals vol v e))
  either_step v h g e m = go g.cases e m
    where
      go : Agrees seals vol v h ⊎ AllGone h → (e : Event) → Allowed seals vol v e → Either (leaves seals vol v e) (machine h (seen seals vol v e))
      go (inl k) x n = from_agrees _ _ (event_step seals sound vol v h k x n)
      go (inr z) (call a c f) n = either_call v h g.bytes z a c f n (refusal seals v a c) refl
      go (inr z) (damage p i b) n = record { bytes = bytes_write vol.size i p b v g.bytes n.1.bytes; cases = inr (gone_hurt h p i z) }

  either_list : (es : List Event) (v : Triple) (h : State) → Either v h → AllAllowed seals vol v es → Either (run seals vol v es) (hold seals vol v h es)
  either_list [] v h g m = g
  either_list (e ∷ es) v h g m = either_list es (leaves seals vol v e) (machine h (seen seals vol v e)) (either_step v h g e m.0) m.1

  either_promised : (v : Triple) (h : State) → Either v h → Promised seals vol v h
  either_promised v h g = go g.cases
    where
      go : Agrees seals vol v h ⊎ AllGone h → Promised seals vol v h
      go (inl k) = promised seals sound vol v h k
      go (inr z) = promised_by seals sound vol v h g.bytes (λ i lt. subst (λ (x : Held). Promise seals vol v i x) (sym (z i)) tt)

-- From images of any lengths.
pub history_any : (seals : Schemes) → AllSound seals → HistoryAny seals
history_any seals sound vol v b es m =
    either_promised seals sound vol (run seals vol v es) (hold seals vol v start es)
    (either_list seals sound vol es v start (record { bytes = b; cases = inr (λ i. refl) }) m)
