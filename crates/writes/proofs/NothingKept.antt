-- On a volume whose key is refused no sector is ever kept. Assumes nothing.
use mathlib.Core.Path.{◌≡◌, refl, sym, ap, subst, ◌∙◌}
use mathlib.Core.List.{List, [], ◌∷◌, ◌++◌}
use mathlib.Core.Option.{Option, none, some}
use Prim.Native.Nat.{ℕ}
use lib.ListN.{length}
use Rattle.mode.specs.Sealing.{Triple}
use Rattle.answers.specs.Rules.{Rule, first_of, Args, Volume, is_shape, key_rules, size_rules, shape_rules, number_rules, map_rules}
use Rattle.history.specs.Machine.{gone, State, start, machine}
use Rattle.history.specs.Volume.{Call, read, lengths, late, sealing, sector, mirror}
use Rattle.history.specs.Power.{Event, call, damage}
use Rattle.history.proofs.History.{AllGone, gone_hurt}
use Rattle.history.proofs.Options.{none_some}
use Rattle.suspects.specs.History.{lent_refusal, lent_seen, LentAllowed, hold_lent}
use Rattle.suspects.proofs.History.{refused_machine}
use Rattle.writes.specs.History.{LaptopEvent, single, write, events, laptop_leaves, LaptopAllowed, AllLaptopAllowed, hold_laptop}
use Rattle.writes.proofs.History.{write_refused}

module _ (vol : Volume) (r : ℕ) (e : (rest : List Rule) → first_of (key_rules vol.key ++ rest) ≡ some r) where
  -- every call on this volume is refused
  refused_here : (v : Triple) (a : Args) (c : Call) (m : List ℕ) → a.volume ≡ vol → lent_refusal v a c m ≡ some r
  refused_here v a c m same =
      let w : Volume = a.volume in
      let rest : List Rule = (map_rules w.count (length m) ++ number_rules w.count a.number) ++ (lengths a c ++ late (sealing mirror a) a.number (sector v a) c) in
      subst (λ (u : Volume). (rest : List Rule) → first_of (key_rules u.key ++ rest) ≡ some r) (sym same) e
      ((size_rules w.size ++ shape_rules (is_shape w.size w.count v)) ++ rest)

  -- so every call is, where one that is not refused would have to be on this volume
  always_refused : (v : Triple) (a : Args) (c : Call) (m : List ℕ) → (lent_refusal v a c m ≡ none → a.volume ≡ vol) → (n : ℕ) × (lent_refusal v a c m ≡ some n)
  always_refused v a c m own = go (lent_refusal v a c m) refl
    where
      go : (o : Option ℕ) → lent_refusal v a c m ≡ o → (n : ℕ) × (lent_refusal v a c m ≡ some n)
      go none d = absurd (none_some (sym d ∙ refused_here v a c m (own d)))
      go (some n) d = (n, d)

  after_event : (v : Triple) (h : State) → AllGone h → (x : LaptopEvent) → LaptopAllowed vol v x → AllGone (hold_lent vol v h (events v x))
  after_event v h g (single l) y = of_event l.event l.map y
    where
      of_event : (x : Event) (m : List ℕ) → LentAllowed vol v x m → AllGone (machine h (lent_seen vol v x m))
      of_event (call a c f) m z = λ i. ap (λ (u : State). u i) (refused_machine vol v a c m f (always_refused v a c m z.0).1 h) ∙ g i
      of_event (damage p i b) m z = gone_hurt h p i g
  after_event v h g (write a P m f) y =
      let u = always_refused v a (read (length P)) m y.0 in
      λ i. ap (λ (t : State). t i) (write_refused vol v a P m f u.0 u.1 h) ∙ g i

  all_gone : (v : Triple) (h : State) → AllGone h → (es : List LaptopEvent) → AllLaptopAllowed vol v es → AllGone (hold_laptop vol v h es)
  all_gone v h g [] y = g
  all_gone v h g (x ∷ es) y = all_gone (laptop_leaves vol v x) (hold_lent vol v h (events v x)) (after_event v h g x y.0) es y.1

  pub nothing_kept : (v : Triple) (es : List LaptopEvent) → AllLaptopAllowed vol v es → (i : ℕ) → hold_laptop vol v start es i ≡ gone
  nothing_kept v es y = all_gone v start (λ j. refl) es y
