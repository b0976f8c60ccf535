-- Demand 3 for the calls with a map. Assumes nothing.
use mathlib.Core.Path.{◌≡◌, refl, sym, ◌∙◌, ap, ap₂, subst}
use mathlib.Core.Bool.{false}
use mathlib.Core.List.{List, [], ◌∷◌}
use mathlib.Core.Option.{Option, none, some}
use Prim.Native.Nat.{ℕ}
use lib.ListN.{length}
use Rattle.bits.specs.Bits.{mark}
use Rattle.mode.specs.Sealing.{Triple}
use Rattle.mode.specs.Scheme.{Place, local}
use Rattle.answers.specs.Rules.{Args, Volume, map_words}
use Rattle.verdict.specs.Verdict.{Fits}
use Rattle.history.specs.Volume.{Call, first, mend, read, sector, sealing, unless, refusal, landed, mirror, outcome, read_outcome}
use Rattle.history.specs.Machine.{Held, gone, kept, Told, Seen, called, State, machine, start}
use Rattle.history.specs.Power.{Fate, finished, cut, torn, Event, call, damage, Images, is_refused, told, leaves_call, leaves, seen, Allowed, AllAllowed, run, hold}
use Rattle.history.specs.History.{Proper, ProperRead, Reads, at, own, Sure, Unsure, Found, Promise, Promised}
use Rattle.history.proofs.Demand3.{demand_3}
use Rattle.suspects.specs.Marks.{is_finished, marks, marked, map_refusal, map_outcome, map_read_outcome}
use Rattle.suspects.specs.History.{Lent, lent_refusal, leaves_lent, lent_leaves, lent_seen, LentAllowed, AllLentAllowed, run_lent, hold_lent, RightMap, read_with, SureLent, UnsureLent, FoundLent, PromiseLent, PromisedLent, Demand3WithMaps}
use Rattle.suspects.proofs.Calls.{marked_done, as_without, read_as_without, goes_on, refuses, none_of_order}

-- ---- one call

module _ (vol : Volume) (v : Triple) (a : Args) (c : Call) (m : List ℕ) (f : Fate) where
  -- one that is refused, for its map or for another reason, changes nothing
  pub refused_leaves : {k : ℕ} → lent_refusal v a c m ≡ some k → leaves_lent v a c f m ≡ v
  refused_leaves {k} e = go f
    where
      go : (f : Fate) → leaves_lent v a c f m ≡ v
      go finished = ap (λ (r : ℕ × (Triple × List ℕ)). r.1.0) (refuses v a m c k e)
      go (cut t) = ap (λ (o : Option ℕ). unless o v (landed mirror (torn t) v a c)) e

  pub refused_machine : {k : ℕ} → lent_refusal v a c m ≡ some k → (h : State) → machine h (lent_seen vol v (call a c f) m) ≡ h
  refused_machine e h =
      let t : Told = told (sealing mirror a) a.number (sector (leaves_lent v a c f m) a) c f in
      ap (λ (o : Option ℕ). machine h (called a c (is_refused o) t)) e

  -- one that is accepted with its map is accepted without it, and does the same
  first_passed : lent_refusal v a c m ≡ none → map_refusal v a m ≡ none
  first_passed e = (none_of_order v a c m e).0

  same_refusal : lent_refusal v a c m ≡ none → lent_refusal v a c m ≡ refusal mirror v a c
  same_refusal e = sym (goes_on v a c m (first_passed e))

  accepted_leaves : lent_refusal v a c m ≡ none → leaves_lent v a c f m ≡ leaves_call mirror v a c f
  unfolding outcome leaves_call
  accepted_leaves e = go f
    where
      go : (f : Fate) → leaves_lent v a c f m ≡ leaves_call mirror v a c f
      go finished = ap (λ (r : ℕ × (Triple × List ℕ)). r.1.0) (marked_done mirror v a c m (first_passed e) refl refl)
      go (cut k) = ap (λ (o : Option ℕ). unless o v (landed mirror (torn k) v a c)) (same_refusal e)

  accepted_seen : lent_refusal v a c m ≡ none → lent_seen vol v (call a c f) m ≡ seen mirror vol v (call a c f)
  accepted_seen e =
      ap₂ (λ (o : Option ℕ) (w : Triple). called a c (is_refused o) (told (sealing mirror a) a.number (sector w a) c f))
      (same_refusal e) (accepted_leaves e)

  accepted_allowed : lent_refusal v a c m ≡ none → LentAllowed vol v (call a c f) m → Allowed mirror vol v (call a c f)
  accepted_allowed e z = (λ y. z.0 e, z.1, z.2)

-- ---- an event

module _ (vol : Volume) where
  -- it is the event without a map, or it changes nothing
  data Without (v : Triple) (e : Event) (m : List ℕ) : Type 0 where
    same : lent_leaves vol v e m ≡ leaves mirror vol v e → lent_seen vol v e m ≡ seen mirror vol v e
        → (LentAllowed vol v e m → Allowed mirror vol v e) → Without v e m
    nothing : lent_leaves vol v e m ≡ v → ((h : State) → machine h (lent_seen vol v e m) ≡ h) → Without v e m

  without : (v : Triple) (e : Event) (m : List ℕ) → Without v e m
  without v (damage p i b) m = same refl refl (λ z. z)
  without v (call a c f) m = go (lent_refusal v a c m) refl
    where
      go : (o : Option ℕ) → lent_refusal v a c m ≡ o → Without v (call a c f) m
      go none e = same (accepted_leaves vol v a c m f e) (accepted_seen vol v a c m f e) (accepted_allowed vol v a c m f e)
      go (some k) e = nothing (refused_leaves vol v a c m f e) (refused_machine vol v a c m f e)

  -- ---- a list of events

  -- events without maps that lead from the images w to where the list ls leads from v
  record Led (w v : Triple) (ls : List Lent) : Type 0 where
    events : List Event
    allowed : AllAllowed mirror vol w events
    images : run mirror vol w events ≡ run_lent vol v ls
    holds : (h : State) → hold mirror vol w h events ≡ hold_lent vol v h ls

  led : (v : Triple) (ls : List Lent) → AllLentAllowed vol v ls → Led v v ls
  led v [] y = record { events = []; allowed = tt; images = refl; holds = λ h. refl }
  led v (l ∷ ls) y = go (without v l.event l.map) (led (lent_leaves vol v l.event l.map) ls y.1)
    where
      left : Triple
      left = lent_leaves vol v l.event l.map

      go : Without v l.event l.map → Led left left ls → Led v v (l ∷ ls)
      go (same p q z) r =
          let s : Led (leaves mirror vol v l.event) left ls = subst (λ (w : Triple). Led w left ls) p r in
          record {
            events = l.event ∷ s.events;
            allowed = (z y.0, s.allowed);
            images = s.images;
            holds = λ h.
                s.holds (machine h (seen mirror vol v l.event))
                ∙ ap (λ (x : Seen). hold_lent vol left (machine h x) ls) (sym q);
          }
      go (nothing p q) r =
          let s : Led v left ls = subst (λ (w : Triple). Led w left ls) p r in
          record {
            events = s.events;
            allowed = s.allowed;
            images = s.images;
            holds = λ h. s.holds h ∙ ap (λ (x : State). hold_lent vol left x ls) (sym (q h));
          }

-- ---- the promise

module _ (vol : Volume) (v : Triple) (i : ℕ) where
  module _ (a : Args) (c : Call) (m : List ℕ) (p : Proper vol v i a c) (r : RightMap vol m) where
    -- as many words as the call's own n needs
    own_words : length m ≡ map_words a.volume.count
    own_words = r ∙ sym (ap (λ (u : Volume). map_words u.count) p.takes)

    same_number : (map_outcome mirror v a c m).0 ≡ (outcome mirror v a c).0
    same_number = ap (λ (x : ℕ × (Triple × List ℕ)). x.0) (as_without mirror v a c m own_words)

    same_images : (map_outcome mirror v a c m).1.0 ≡ (outcome mirror v a c).1
    same_images = ap (λ (x : ℕ × (Triple × List ℕ)). x.1.0) (as_without mirror v a c m own_words)

  module _ (a : Args) (out m : List ℕ) (p : ProperRead vol v i a out) (r : RightMap vol m) where
    same_read : read_with vol v a out m ≡ read_outcome mirror v a out
    same_read = ap (λ (x : ℕ × (List ℕ × List ℕ)). (x.0, x.1.0)) (read_as_without mirror v a out m (own_words a (read (length out)) m p r))

    read_number : (map_read_outcome mirror v a out m).0 ≡ (read_outcome mirror v a out).0
    read_number = ap (λ (x : ℕ × List ℕ). x.0) same_read

    -- whole, which clears the bit
    read_clears : {P : List ℕ} → read_outcome mirror v a out ≡ (0, P) → map_read_outcome mirror v a out m ≡ (0, (P, mark i false m))
    unfolding is_finished
    read_clears {P} e =
        read_as_without mirror v a out m (own_words a (read (length out)) m p r)
        ∙ ap (λ (x : ℕ × List ℕ). (x.0, (x.1, marked (marks (read (length out)) x.0) a.number m))) e
        ∙ ap (λ (j : ℕ). (0, (P, mark j false m))) p.names

  sure_lent : (P : List ℕ) → Sure mirror vol v i P → SureLent vol v i P
  sure_lent P s = record {
    read_gives = λ a out m p r. read_clears a out m p r (s.read_gives a out p);
    first_accepted = λ a Q m p r. same_number a (first Q) m p r ∙ s.first_accepted a Q p;
    first_leaves = λ a Q m p r.
        subst (λ (w : Triple). Fits (own mirror vol) i (at vol w i) local Q) (sym (same_images a (first Q) m p r)) (s.first_leaves a Q p);
  }

  unsure_lent : (P : List ℕ) (q : Place) → Unsure mirror vol v i P q → UnsureLent vol v i P q
  unsure_lent P q s = record {
    reads = λ a out m p r. subst (Reads mirror vol v i P q out) (sym (same_read a out m p r)) (s.reads a out p);
  }

  found_lent : Found mirror vol v i → FoundLent vol v i
  found_lent s = record {
    not_lost = s.not_lost;
    never_6 = λ a c m p r e. s.never_6 a c p (sym (same_number a c m p r) ∙ e);
    read_never_6 = λ a out m p r e. s.read_never_6 a out p (sym (read_number a out m p r) ∙ e);
  }

  promise_lent : (x : Held) → Promise mirror vol v i x → PromiseLent vol v i x
  promise_lent gone s = tt
  promise_lent (kept P none) s = (found_lent s.0, sure_lent P s.1)
  promise_lent (kept P (some q)) s = (found_lent s.0, unsure_lent P q s.1)

promised_lent : (vol : Volume) (v : Triple) (h : State) → Promised mirror vol v h → PromisedLent vol v h
promised_lent vol v h s = record {
  held = λ i lt. promise_lent vol v i (h i) (s.held i lt);
  mend_7 = λ i a b out m k p q r t.
      let x = read_number vol v i a out m p r in
      let y = same_number vol v i b mend k q t in
      let both = s.mend_7 i a b out p q in
      (λ e. y ∙ both.0 (sym x ∙ e), λ e. x ∙ both.1 (sym y ∙ e));
  others = λ a c f m z j n. go a c f m z j n (without vol v (call a c f) m);
}
  where
    go : (a : Args) (c : Call) (f : Fate) (m : List ℕ) → LentAllowed vol v (call a c f) m → (j : ℕ) → (j ≡ a.number → ⊥)
        → Without vol v (call a c f) m → at vol (leaves_lent v a c f m) j ≡ at vol v j
    go a c f m z j n (same p q y) = ap (λ (w : Triple). at vol w j) p ∙ s.others a c f (y z) j n
    go a c f m z j n (nothing p q) = ap (λ (w : Triple). at vol w j) p

pub demand_3_with_maps : Demand3WithMaps
demand_3_with_maps = record {
  from_gone = λ vol v I ls y.
      let w = led vol v ls y in
      let d = demand_3.from_gone vol v I w.events w.allowed in (
        promised_lent vol (run_lent vol v ls) (hold_lent vol v start ls)
            (subst (λ (u : Triple). Promised mirror vol u (hold_lent vol v start ls)) w.images
            (subst (λ (x : State). Promised mirror vol (run mirror vol v w.events) x) (w.holds start) d.0)),
        subst (Images vol.size vol.count) w.images d.1,
      );
}
