-- Each event keeps what the machine holds in agreement with the images. Assumes nothing but the laws of the sealing.
use mathlib.Core.Path.{◌≡◌, refl, sym, ap, subst}
use mathlib.Core.Bool.{Bool, cond}
use mathlib.Core.List.{List, [], ◌∷◌}
use mathlib.Core.Option.{Option, none, some}
use Prim.Native.Nat.{ℕ, ◌<◌}
use native.Mathlib.Decide.{ℕ_discrete}
use borrow.Author.Tests.{eq-eqb, ne_eqb}
use Rattle.mode.specs.Sealing.{Triple}
use Rattle.mode.specs.Scheme.{Place}
use Rattle.answers.specs.Rules.{Args, Volume}
use Rattle.history.specs.Volume.{sector_of, write, Call, sector, sealing, refusal, Schemes}
use Rattle.history.specs.Machine.{called, Held, step, after_damage, State, put, machine}
use Rattle.history.specs.Power.{Fate, Event, call, damage, is_refused, told, Images, LentBytes, CutOf, leaves_call, leaves, seen, Allowed, AllAllowed, run, hold}
use Rattle.history.specs.History.{at, own}
use Rattle.history.specs.HistoryFrom.{Agree, AnyBytes, Agrees}
use Rattle.history.proofs.Refusals.{accepted_passed}
use Rattle.history.proofs.Sector.{keeps_hurt}
use Rattle.history.proofs.Images.{any_bytes, bytes_write, images_write, sector-write, sector_other, leaves_refused, left, held_after_lem, AllSound}

-- ---- the state

pub put_same : (i : ℕ) (x : Held) (h : State) → put i x h i ≡ x
unfolding put
put_same i x h = ap (λ (u : Bool). cond u x (h i)) (eq-eqb i i refl)

pub put_other : (i : ℕ) (x : Held) (h : State) (j : ℕ) → (j ≡ i → ⊥) → put i x h j ≡ h j
unfolding put
put_other i x h j n = ap (λ (u : Bool). cond u x (h j)) (ne_eqb j i n)

-- ---- arguments

-- the volume's key, number, s and n, and the sector's number i
abbrev pub args_of : Volume → ℕ → Args
args_of vol i = record { volume = vol; number = i }

pub takes_args : (vol : Volume) (a : Args) → a.volume ≡ vol → a ≡ args_of vol a.number
takes_args vol a k = ap (λ (w : Volume). args_of w a.number) k

-- ---- calls

module _ (seals : Schemes) (vol : Volume) (v : Triple) (h : State) (a : Args) (c : Call) (f : Fate) where
  pub machine_accepted : refusal seals v a c ≡ none → machine h (seen seals vol v (call a c f)) ≡ put a.number (step a.volume.size c (told (sealing seals a) a.number (sector (leaves_call seals v a c f) a) c f) (h a.number)) h
  machine_accepted e = ap (λ (r : Option ℕ). machine h (called a c (is_refused r) (told (sealing seals a) a.number (sector (leaves_call seals v a c f) a) c f))) e

  pub machine_refused : (k : ℕ) → refusal seals v a c ≡ some k → machine h (seen seals vol v (call a c f)) ≡ h
  machine_refused k e = ap (λ (r : Option ℕ). machine h (called a c (is_refused r) (told (sealing seals a) a.number (sector (leaves_call seals v a c f) a) c f))) e

module _ (seals : Schemes) (sound : AllSound seals) (vol : Volume) where
  -- one sector changes, and what is held of it
  agrees_put : (v w : Triple) (h : State) (i : ℕ) (x : Held) → Agrees seals vol v h → Images vol.size vol.count w
      → Agree vol.size (own seals vol) i (at vol w i) x
      → ((j : ℕ) → (j ≡ i → ⊥) → at vol w j ≡ at vol v j)
      → Agrees seals vol w (put i x h)
  agrees_put v w h i x g I mine others = record { images = I; agree = λ j lt. go j lt (ℕ_discrete j i) }
    where
      go : (j : ℕ) → j < vol.count → Dec (j ≡ i) → Agree vol.size (own seals vol) j (at vol w j) (put i x h j)
      go j lt (yes e) =
          subst (λ (k : ℕ). Agree vol.size (own seals vol) k (at vol w k) (put i x h k)) (sym e)
          (subst (λ (y : Held). Agree vol.size (own seals vol) i (at vol w i) y) (sym (put_same i x h)) mine)
      go j lt (no n) =
          subst (λ (y : Held). Agree vol.size (own seals vol) j (at vol w j) y) (sym (put_other i x h j n))
          (subst (λ (t : Triple). Agree vol.size (own seals vol) j t (h j)) (sym (others j n)) (g.agree j lt))

  accepted_step : (v : Triple) (h : State) → Agrees seals vol v h → (i : ℕ) (c : Call) (f : Fate) → refusal seals v (args_of vol i) c ≡ none → LentBytes c → CutOf vol.size f
      → Agrees seals vol (leaves_call seals v (args_of vol i) c f) (machine h (seen seals vol v (call (args_of vol i) c f)))
  accepted_step v h g i c f e l k =
      let b : AnyBytes v = any_bytes vol.size vol.count v g.images in
      let z = left seals sound v b (args_of vol i) c f l k e in
      let lt : i < vol.count = (accepted_passed seals v (args_of vol i) c e).number in
      subst (λ (y : State). Agrees seals vol (leaves_call seals v (args_of vol i) c f) y) (sym (machine_accepted seals vol v h (args_of vol i) c f e))
      (agrees_put v (leaves_call seals v (args_of vol i) c f) h i _ g z.images
      (held_after_lem seals sound v b (args_of vol i) c f l k e (h i) (g.agree i lt)) z.others)

  call_step : (v : Triple) (h : State) → Agrees seals vol v h → (a : Args) (c : Call) (f : Fate) → Allowed seals vol v (call a c f) → (r : Option ℕ) → refusal seals v a c ≡ r
      → Agrees seals vol (leaves_call seals v a c f) (machine h (seen seals vol v (call a c f)))
  call_step v h g a c f m none e =
      subst (λ (b : Args). refusal seals v b c ≡ none → Agrees seals vol (leaves_call seals v b c f) (machine h (seen seals vol v (call b c f))))
      (sym (takes_args vol a (m.0 e))) (λ z. accepted_step v h g a.number c f z m.1 m.2) e
  call_step v h g a c f m (some k) e =
      subst (λ (w : Triple). Agrees seals vol w (machine h (seen seals vol v (call a c f)))) (sym (leaves_refused seals v a c f k e))
      (subst (λ (y : State). Agrees seals vol v y) (sym (machine_refused seals vol v h a c f k e)) g)

  damage_step : (v : Triple) (h : State) → Agrees seals vol v h → (p : Place) (i : ℕ) (b : List ℕ) → Allowed seals vol v (damage p i b) → Agrees seals vol (write vol.size i p b v) (put i (after_damage p (h i)) h)
  damage_step v h g p i b m =
      agrees_put v (write vol.size i p b v) h i (after_damage p (h i)) g
      (images_write vol.size vol.count i m.0 p b m.1 v g.images)
      (subst (λ (u : Triple). Agree vol.size (own seals vol) i u (after_damage p (h i))) (sym (sector-write vol.size vol.count i m.0 p b m.1 v g.images))
      (keeps_hurt vol.size (own seals vol) i (at vol v i) p b (h i) (g.agree i m.0)))
      (λ j n. sector_other vol.size vol.count i m.0 p b m.1 v g.images j n)

  -- every event keeps it,
  pub event_step : (v : Triple) (h : State) → Agrees seals vol v h → (e : Event) → Allowed seals vol v e → Agrees seals vol (leaves seals vol v e) (machine h (seen seals vol v e))
  event_step v h g (call a c f) m = call_step v h g a c f m (refusal seals v a c) refl
  event_step v h g (damage p i b) m = damage_step v h g p i b m

  -- and so does every list of events.
  pub list_step : (es : List Event) (v : Triple) (h : State) → Agrees seals vol v h → AllAllowed seals vol v es → Agrees seals vol (run seals vol v es) (hold seals vol v h es)
  list_step [] v h g m = g
  list_step (e ∷ es) v h g m = list_step es (leaves seals vol v e) (machine h (seen seals vol v e)) (event_step v h g e m.0) m.1

  -- a call changes no sector but the one that it names
  pub call_others : (v : Triple) → AnyBytes v → (a : Args) (c : Call) (f : Fate) → Allowed seals vol v (call a c f) → (j : ℕ) → (j ≡ a.number → ⊥) → at vol (leaves_call seals v a c f) j ≡ at vol v j
  call_others v b a c f m j n = go (refusal seals v a c) refl
    where
      go : (r : Option ℕ) → refusal seals v a c ≡ r → at vol (leaves_call seals v a c f) j ≡ at vol v j
      go none e =
          let t : a.volume ≡ vol = m.0 e in
          subst (λ (u : Volume). sector_of u.size j (leaves_call seals v a c f) ≡ sector_of u.size j v) t
          ((left seals sound v b a c f m.1 (subst (λ (u : Volume). CutOf u.size f) (sym t) m.2) e).others j n)
      go (some k) e = ap (λ (u : Triple). at vol u j) (leaves_refused seals v a c f k e)

  -- ---- after an event and after a list the images still hold bytes

  pub leaves_bytes : (v : Triple) → AnyBytes v → (e : Event) → Allowed seals vol v e → AnyBytes (leaves seals vol v e)
  leaves_bytes v b (call a c f) m = go (refusal seals v a c) refl
    where
      go : (o : Option ℕ) → refusal seals v a c ≡ o → AnyBytes (leaves seals vol v (call a c f))
      go none e =
          let cuts = subst (λ (u : Volume). CutOf u.size f) (sym (m.0 e)) m.2 in
          any_bytes a.volume.size a.volume.count _ (left seals sound v b a c f m.1 cuts e).images
      go (some k) e = subst AnyBytes (sym (leaves_refused seals v a c f k e)) b
  leaves_bytes v b (damage p i x) m = bytes_write vol.size i p x v b m.1.bytes

  pub run_bytes : (es : List Event) (v : Triple) → AnyBytes v → AllAllowed seals vol v es → AnyBytes (run seals vol v es)
  run_bytes [] v b m = b
  run_bytes (e ∷ es) v b m = run_bytes es (leaves seals vol v e) (leaves_bytes v b e m.0) m.1
