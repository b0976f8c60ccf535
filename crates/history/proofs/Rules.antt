-- The machine keeps document 01's rules. Assumes nothing.
use mathlib.Core.Path.{◌≡◌, refl, ◌∙◌, ap}
use mathlib.Core.Bool.{Bool, true, false, cond}
use mathlib.Core.List.{List}
use mathlib.Core.Option.{Option, none, some}
use Prim.Native.Nat.{ℕ}
use Rattle.mode.specs.Sealing.{Triple}
use Rattle.mode.specs.Scheme.{Place, local, tag, remote, Scheme}
use Rattle.verdict.specs.Verdict.{fits}
use Rattle.verdict.proofs.JudgeExact.{fits-Fits, Fits-fits}
use Rattle.answers.specs.Rules.{Args, Volume}
use Rattle.history.specs.Volume.{Call, blank, first, second, third, mend, read, sector, sealing, refusal, mirror}
use Rattle.history.specs.Machine.{told_cut, gone, kept, doubt_local, cleared, step, is_place, after_damage, State}
use Rattle.history.specs.Power.{Cut, Fate, finished, cut, call, told, leaves_call}
use Rattle.history.specs.Rules.{held, Accepted, NewTag, Rules, PlainMachine}
use Rattle.history.proofs.Events.{put_same, put_other, machine_accepted, machine_refused}
use Rattle.history.proofs.Sector.{is_place_lem}

module _ (vol : Volume) (v : Triple) (h : State) where
  -- what the call's sector holds is the machine's step
  stepped : (a : Args) (c : Call) (f : Fate) → Accepted vol v h a c
      → held vol v h (call a c f) a.number ≡ step a.volume.size c (told (sealing mirror a) a.number (sector (leaves_call mirror v a c f) a) c f) (h a.number)
  stepped a c f e = ap (λ (y : State). y a.number) (machine_accepted mirror vol v h a c f e) ∙ put_same a.number _ h

  others : (a : Args) (c : Call) (f : Fate) (j : ℕ) → (j ≡ a.number → ⊥) → held vol v h (call a c f) j ≡ h j
  others a c f j n = go (refusal mirror v a c) refl
    where
      go : (r : Option ℕ) → refusal mirror v a c ≡ r → held vol v h (call a c f) j ≡ h j
      go none e = ap (λ (y : State). y j) (machine_accepted mirror vol v h a c f e) ∙ put_other a.number _ h j n
      go (some k) e = ap (λ (y : State). y j) (machine_refused mirror vol v h a c f k e)

  first_is : (a : Args) (P : List ℕ) (f : Fate) → Accepted vol v h a (first P) → held vol v h (call a (first P) f) a.number ≡ doubt_local (h a.number)
  first_is a P finished e = stepped a (first P) finished e
  first_is a P (cut k) e = stepped a (first P) (cut k) e

  reads : (a : Args) (o : ℕ) (f : Fate) → Accepted vol v h a (read o) → held vol v h (call a (read o) f) a.number ≡ h a.number
  reads a o finished e = stepped a (read o) finished e
  reads a o (cut k) e = stepped a (read o) (cut k) e

  module _ (a : Args) (P : List ℕ) (k : Cut) (e : Accepted vol v h a (second P)) where
    abbrev S : Scheme
    S = sealing mirror a

    abbrev t : Triple
    t = sector (leaves_call mirror v a (second P) (cut k)) a

    told_so : (b : Bool) → fits S a.number t tag P ≡ b → held vol v h (call a (second P) (cut k)) a.number ≡ step a.volume.size (second P) (told_cut b) (h a.number)
    told_so b eb = stepped a (second P) (cut k) e ∙ ap (λ (x : Bool). step a.volume.size (second P) (told_cut x) (h a.number)) eb

    second_new : NewTag vol v h a P k → held vol v h (call a (second P) (cut k)) a.number ≡ kept P (some remote)
    second_new n = told_so true (Fits-fits S a.number t tag P n)

    second_old : (NewTag vol v h a P k → ⊥) → held vol v h (call a (second P) (cut k)) a.number ≡ h a.number
    second_old n = go (fits S a.number t tag P) refl
      where
        go : (b : Bool) → fits S a.number t tag P ≡ b → held vol v h (call a (second P) (cut k)) a.number ≡ h a.number
        go true y = absurd (n (fits-Fits S a.number t tag P y))
        go false y = told_so false y

  same_place : (p : Place) (Q : List ℕ) → after_damage p (kept Q (some p)) ≡ kept Q (some p)
  same_place local Q = refl
  same_place tag Q = refl
  same_place remote Q = refl

  other_place : (p q : Place) (Q : List ℕ) → (q ≡ p → ⊥) → after_damage p (kept Q (some q)) ≡ gone
  other_place p q Q n = go (is_place q p) (is_place_lem q p)
    where
      go : (b : Bool) → (b ≡ true → q ≡ p) → cond b (kept Q (some q)) gone ≡ gone
      go true w = absurd (n (w refl))
      go false w = refl

  rules : Rules vol v h
  rules = record {
    refused = λ a c f k e j. ap (λ (y : State). y j) (machine_refused mirror vol v h a c f k e);
    others = others;
    blank_finished = λ a e. stepped a blank finished e;
    blank_cut = λ a k e. stepped a blank (cut k) e;
    first_kept = λ a P f e Q d x. first_is a P f e ∙ ap doubt_local x;
    first_gone = λ a P f e x. first_is a P f e ∙ ap doubt_local x;
    second_finished = λ a P e. stepped a (second P) finished e;
    second_new = second_new;
    second_old = second_old;
    third_finished = λ a P e. stepped a (third P) finished e;
    third_cut = λ a P k e. stepped a (third P) (cut k) e;
    mend_kept = λ a e Q d x. stepped a mend finished e ∙ ap cleared x;
    mend_gone = λ a e x. stepped a mend finished e ∙ ap cleared x;
    mend_cut = λ a k e. stepped a mend (cut k) e;
    reads = reads;
    damage_sure = λ p i b Q x. put_same i (after_damage p (h i)) h ∙ ap (after_damage p) x;
    damage_there = λ p i b Q x. put_same i (after_damage p (h i)) h ∙ ap (after_damage p) x ∙ same_place p Q;
    damage_elsewhere = λ p q i b Q n x. put_same i (after_damage p (h i)) h ∙ ap (after_damage p) x ∙ other_place p q Q n;
    damage_gone = λ p i b x. put_same i (after_damage p (h i)) h ∙ ap (after_damage p) x;
    damage_others = λ p i b j n. put_other i (after_damage p (h i)) h j n;
  }

pub plain_machine : PlainMachine
plain_machine vol v h = rules vol v h
