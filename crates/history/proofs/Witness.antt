-- Blank and the three stages, finished, lead to any plaintext without doubt, and damage then to each place in doubt. Assumes nothing.
use mathlib.Core.Path.{◌≡◌, refl, sym, ◌∙◌, ap, subst}
use mathlib.Core.Bool.{true}
use mathlib.Core.List.{List, [], ◌∷◌}
use mathlib.Core.Option.{Option, none, some}
use Prim.Native.Nat.{ℕ, ◌≤◌, ◌<◌, ◌*◌}
use lib.Dec.{eqb, leb}
use lib.ListN.{length, replicate, length-replicate}
use borrow.Author.Tests.{eq-eqb, le-leb}
use Rattle.block.specs.Bytes.{Plain}
use Rattle.block.proofs.Lists.{and_both, plain_zeros}
use Rattle.mode.specs.Sealing.{Triple}
use Rattle.mode.specs.Scheme.{Place, local, tag, remote, wide, Lawful}
use Rattle.verdict.specs.Verdict.{Fits, judge, whole}
use Rattle.answers.specs.Rules.{first_of, Args, is_shape, shape, Volume}
use Rattle.verdict.proofs.JudgeExact.{local_remote, tag_remote}
use Rattle.history.specs.Volume.{write, Call, blank, first, second, third, mend, read, lengths, early, refusal, mirror}
use Rattle.history.specs.Machine.{told_finished, Held, kept, after_damage, State, start, step, machine}
use Rattle.history.specs.Power.{finished, Event, call, damage, Images, LentBytes, leaves_call, seen, Allowed, AllAllowed}
use Rattle.history.specs.History.{at, own, Proper, ProperRead}
use Rattle.history.specs.HistoryFrom.{Agree, Agrees}
use Rattle.history.specs.Witness.{AcceptedVolume, Reaches, Reached}
use Rattle.history.proofs.Demand3.{mirror_sound}
use Rattle.history.proofs.Events.{args_of, put_same, machine_accepted, event_step}
use Rattle.history.proofs.History.{start_agrees}
use Rattle.history.proofs.Images.{any_bytes, sector_images, first_landed}
use Rattle.history.proofs.Refusals.{passes_early, refusal_late}
use Rattle.history.proofs.Options.{some_inj}
use Rattle.history.proofs.Sector.{judge_sure, whole_accepted, local_accepted, tagged_accepted}

-- images of the right lengths pass check 8
pub images_shape : (s n : ℕ) (v : Triple) → 1 ≤ n → n ≤ 65536 → Images s n v → is_shape s n v ≡ true
unfolding is_shape shape
images_shape s n v least most I =
    and_both (leb 1 n) _ (le-leb 1 n least)
    (and_both (leb n 65536) _ (le-leb n 65536 most)
    (and_both (eqb (length v.local) (n * s)) _ (eq-eqb (length v.local) (n * s) (I.images local).long)
    (and_both (eqb (length v.remote) (n * s)) _ (eq-eqb (length v.remote) (n * s) (I.images remote).long)
    (eq-eqb (length v.tag) (n * 16) (I.images tag).long))))

module _ (vol : Volume) (accepted : AcceptedVolume vol) (i : ℕ) (lt : i < vol.count) where
  abbrev a : Args
  a = args_of vol i

  -- a call with a plaintext or an output of s bytes passes the early checks
  passes : (v : Triple) → Images vol.size vol.count v → (c : Call) → first_of (lengths a c) ≡ none → first_of (early v a c) ≡ none
  passes v I c l =
      passes_early v a c
      (record {
        common = record { key = accepted.key; hash = accepted.hash; size = accepted.size; shape = images_shape vol.size vol.count v accepted.least accepted.most I };
        number = lt;
        lengths = l;
      })

  same_length : (m : ℕ) → m ≡ vol.size → first_of (lengths a (read m)) ≡ none
  same_length m e = simp (eq-eqb m vol.size e)

  allowed : (v : Triple) (c : Call) → LentBytes c → Allowed mirror vol v (call a c finished)
  allowed v c l = (λ e. refl, l, tt)

  -- a finished call that is not refused: what is held agrees afterwards, and is the machine's step
  module _ (v : Triple) (h : State) (g : Agrees mirror vol v h) (c : Call) (l : LentBytes c) where
    abbrev images_after : Triple
    images_after = leaves_call mirror v a c finished

    abbrev state_after : State
    state_after = machine h (seen mirror vol v (call a c finished))

    agrees_after : Agrees mirror vol images_after state_after
    agrees_after = event_step mirror mirror_sound vol v h g (call a c finished) (allowed v c l)

    held_after_lem : refusal mirror v a c ≡ none → state_after i ≡ step vol.size c told_finished (h i)
    held_after_lem e = ap (λ (y : State). y i) (machine_accepted mirror vol v h a c finished e) ∙ put_same i (step vol.size c told_finished (h i)) h

  -- the sector's verdict where the machine keeps it without doubt
  lawful : Lawful vol.size (own mirror vol)
  lawful = (mirror_sound vol.number).lawful vol.key vol.size accepted.key accepted.size

  sure_whole : (v : Triple) (h : State) → Agrees mirror vol v h → (P : List ℕ) → h i ≡ kept P none → judge (own mirror vol) i (at vol v i) ≡ whole P
  sure_whole v h g P e =
      judge_sure vol.size (own mirror vol) lawful i (at vol v i) (sector_images vol.size vol.count i lt v g.images) P
      (subst (λ (x : Held). Agree vol.size (own mirror vol) i (at vol v i) x) e (g.agree i lt))

  module _ (v : Triple) (I : Images vol.size vol.count v) (P : List ℕ) (plain : Plain vol.size P) where
    -- ---- blank

    v₁ : Triple
    v₁ = leaves_call mirror v a blank finished

    h₁ : State
    h₁ = machine start (seen mirror vol v (call a blank finished))

    g₁ : Agrees mirror vol v₁ h₁
    unfolding v₁ h₁
    g₁ = agrees_after v start (start_agrees mirror vol v I) blank tt

    holds₁ : h₁ i ≡ kept (replicate vol.size 0) none
    unfolding h₁
    holds₁ = held_after_lem v start (start_agrees mirror vol v I) blank tt (refusal_late mirror v a blank (passes v I blank refl))

    -- ---- the first stage

    v₂ : Triple
    v₂ = leaves_call mirror v₁ a (first P) finished

    h₂ : State
    h₂ = machine h₁ (seen mirror vol v₁ (call a (first P) finished))

    accepted₂ : refusal mirror v₁ a (first P) ≡ none
    accepted₂ =
        refusal_late mirror v₁ a (first P) (passes v₁ g₁.images (first P) (same_length (length P) plain.long))
        ∙ whole_accepted (own mirror vol) i (at vol v₁ i) P (replicate vol.size 0) (sure_whole v₁ h₁ g₁ (replicate vol.size 0) holds₁)

    g₂ : Agrees mirror vol v₂ h₂
    unfolding v₂ h₂
    g₂ = agrees_after v₁ h₁ g₁ (first P) plain.bytes

    fits₂ : Fits (own mirror vol) i (at vol v₂ i) local P
    unfolding v₂ leaves_call
    fits₂ = first_landed mirror mirror_sound v₁ (any_bytes vol.size vol.count v₁ g₁.images) a P plain.bytes accepted₂

    -- ---- the second

    v₃ : Triple
    v₃ = leaves_call mirror v₂ a (second P) finished

    h₃ : State
    h₃ = machine h₂ (seen mirror vol v₂ (call a (second P) finished))

    accepted₃ : refusal mirror v₂ a (second P) ≡ none
    accepted₃ =
        refusal_late mirror v₂ a (second P) (passes v₂ g₂.images (second P) (same_length (length P) plain.long))
        ∙ local_accepted (own mirror vol) i (at vol v₂ i) P fits₂

    g₃ : Agrees mirror vol v₃ h₃
    unfolding v₃ h₃
    g₃ = agrees_after v₂ h₂ g₂ (second P) plain.bytes

    holds₃ : h₃ i ≡ kept P (some remote)
    unfolding h₃
    holds₃ = held_after_lem v₂ h₂ g₂ (second P) plain.bytes accepted₃

    agree₃ : Agree vol.size (own mirror vol) i (at vol v₃ i) (kept P (some remote))
    agree₃ = subst (λ (x : Held). Agree vol.size (own mirror vol) i (at vol v₃ i) x) holds₃ (g₃.agree i lt)

    -- ---- the third

    v₄ : Triple
    v₄ = leaves_call mirror v₃ a (third P) finished

    h₄ : State
    h₄ = machine h₃ (seen mirror vol v₃ (call a (third P) finished))

    accepted₄ : refusal mirror v₃ a (third P) ≡ none
    accepted₄ =
        refusal_late mirror v₃ a (third P) (passes v₃ g₃.images (third P) (same_length (length P) plain.long))
        ∙ tagged_accepted (own mirror vol) i (at vol v₃ i) P (agree₃.1 local (λ e. local_remote (sym (some_inj e)))) (agree₃.1 tag (λ e. tag_remote (sym (some_inj e))))

    g₄ : Agrees mirror vol v₄ h₄
    unfolding v₄ h₄
    g₄ = agrees_after v₃ h₃ g₃ (third P) plain.bytes

    holds₄ : h₄ i ≡ kept P none
    unfolding h₄
    holds₄ = held_after_lem v₃ h₃ g₃ (third P) plain.bytes accepted₄

    -- ---- the list, with what comes behind

    written : List Event → List Event
    written es = call a blank finished ∷ call a (first P) finished ∷ call a (second P) finished ∷ call a (third P) finished ∷ es

    written_allowed : (es : List Event) → AllAllowed mirror vol v₄ es → AllAllowed mirror vol v (written es)
    unfolding written v₁ v₂ v₃ v₄
    written_allowed es m =
        (allowed v blank tt, (allowed v₁ (first P) plain.bytes, (allowed v₂ (second P) plain.bytes, (allowed v₃ (third P) plain.bytes, m))))

    proper : (w : Triple) → Images vol.size vol.count w → (c : Call) → LentBytes c → first_of (lengths a c) ≡ none → Proper vol w i a c
    proper w J c l e = record { takes = refl; names = refl; lent = l; passes = passes w J c e }

    reads : (w : Triple) → Images vol.size vol.count w → ProperRead vol w i a (replicate vol.size 0)
    reads w J = proper w J (read (length (replicate vol.size 0))) tt (same_length (length (replicate vol.size 0)) (length-replicate vol.size 0))

    stages : (w : Triple) → Images vol.size vol.count w → (Q : List ℕ) → Plain vol.size Q → Proper vol w i a (first Q)
    stages w J Q h = proper w J (first Q) h.bytes (same_length (length Q) h.long)

    reaches : (d : Option Place) → Reaches vol v i (kept P d)
    unfolding written v₁ v₂ v₃ v₄ h₁ h₂ h₃ h₄
    reaches none = record {
      events = written [];
      allowed = written_allowed [] tt;
      holds = holds₄;
      args = a;
      out = replicate vol.size 0;
      read_proper = reads v₄ g₄.images;
      mend_proper = proper v₄ g₄.images mend tt refl;
      first_proper = stages v₄ g₄.images;
    }
    reaches (some q) =
        let b : List ℕ = replicate (wide vol.size q) 0 in
        let hurts : Allowed mirror vol v₄ (damage q i b) = (lt, plain_zeros (wide vol.size q)) in
        let J : Images vol.size vol.count (write vol.size i q b v₄) = (event_step mirror mirror_sound vol v₄ h₄ g₄ (damage q i b) hurts).images in
        record {
          events = written (damage q i b ∷ []);
          allowed = written_allowed (damage q i b ∷ []) (hurts, tt);
          holds = put_same i (after_damage q (h₄ i)) h₄ ∙ ap (after_damage q) holds₄;
          args = a;
          out = replicate vol.size 0;
          read_proper = reads (write vol.size i q b v₄) J;
          mend_proper = proper (write vol.size i q b v₄) J mend tt refl;
          first_proper = stages (write vol.size i q b v₄) J;
        }

pub reached : Reached
reached vol accepted v I i lt P plain d = reaches vol accepted i lt v I P plain d
