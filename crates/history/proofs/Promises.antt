-- A state that agrees with the images keeps the promises. Assumes nothing but the laws of the sealing.
use mathlib.Core.Path.{◌≡◌, refl, sym, ◌∙◌, ap, ap₂, subst}
use mathlib.Core.Bool.{Bool, true, false, ◌&&◌, not, cond}
use mathlib.Core.List.{List}
use mathlib.Core.Option.{Option, none, some}
use Prim.Native.Nat.{ℕ, ◌<◌}
use native.Mathlib.Omega.{arith}
use Rattle.block.specs.Bytes.{same}
use Rattle.mode.specs.Sealing.{Triple}
use Rattle.mode.specs.Scheme.{Place, local, tag, Scheme, Sector, Lawful}
use Rattle.verdict.specs.Verdict.{Fits, FitsTwo, Verdict, whole, doubtful, lost, clashing, Means, fits, judge}
use lib.ListN.{length}
use Rattle.answers.specs.Answers.{doubt_number, found_number}
use Rattle.answers.specs.Rules.{first_of, Args, Volume}
use Rattle.verdict.specs.Judging.{verdict_doubt, verdict_outcome, verdict_number}
use Rattle.verdict.proofs.Numbers.{outcome_number, number_lost}
use Rattle.history.specs.Answers.{Answer, done, found, reply, is_whole, answer_number}
use Rattle.history.specs.Volume.{Call, blank, first, second, third, mend, read, judge_rules, late, result, sector, sealing, refusal, answer, after, outcome, read_outcome, Schemes}
use Rattle.history.specs.Machine.{Held, gone, kept, State}
use Rattle.history.specs.Power.{Images}
use Rattle.history.specs.History.{Proper, ProperRead, at, own, Sure, Reads, clashes, fits_too, fits_not, Unsure, Found, Promise, Promised}
use Rattle.history.specs.HistoryFrom.{Agree, AnyBytes, Agrees}
use Rattle.block.proofs.Lists.{same_eq, ne_same}
use Rattle.verdict.proofs.JudgeExact.{one_for_all, judge_means}
use Rattle.history.proofs.Refusals.{passed, refusal_late, answer_late}
use Rattle.history.proofs.Options.{some_inj}
use Rattle.history.proofs.Sector.{agree_two, agree_doubtful, judge_sure, whole_accepted}
use Rattle.history.proofs.Images.{any_bytes, sector_images, passed_lawful, first_landed, AllSound}
use Rattle.history.proofs.Outcomes.{read_late}
use Rattle.history.proofs.Events.{args_of, takes_args, call_others}

-- ---- numbers

-- the number of a call that judges, from what it answers where it is not refused
number_by : (w : Verdict) (r : Answer) → answer_number r ≡ found_number (verdict_doubt w) → answer_number (reply (first_of (judge_rules w)) r) ≡ verdict_number w
number_by (whole P) r e = e
number_by (doubtful d P) r e = e
number_by lost r e = refl
number_by clashing r e = refl

-- ---- proper calls

module _ (seals : Schemes) (vol : Volume) (v : Triple) (i : ℕ) (a : Args) where
  proper_args : (c : Call) → Proper vol v i a c → a ≡ args_of vol i
  proper_args c p = takes_args vol a p.takes ∙ ap (args_of vol) p.names

  -- only the last refusals can turn it away
  pub proper_refusal : (c : Call) → Proper vol v i a c → refusal seals v a c ≡ first_of (late (own seals vol) i (at vol v i) c)
  proper_refusal c p =
      refusal_late seals v a c p.passes ∙ ap (λ (b : Args). first_of (late (sealing seals b) b.number (sector v b) c)) (proper_args c p)

  pub proper_answer : (c : Call) → Proper vol v i a c → answer seals v a c ≡ reply (first_of (late (own seals vol) i (at vol v i) c)) (result (own seals vol) i (at vol v i) c)
  proper_answer c p =
      answer_late seals v a c p.passes
      ∙ ap (λ (b : Args). reply (first_of (late (sealing seals b) b.number (sector v b) c)) (result (sealing seals b) b.number (sector v b) c)) (proper_args c p)

  read_answer : (out : List ℕ) → ProperRead vol v i a out → read_outcome seals v a out ≡ verdict_outcome (judge (own seals vol) i (at vol v i)) out
  read_answer out p =
      read_late seals v a out p.passes
      ∙ ap (λ (b : Args). verdict_outcome (judge (sealing seals b) b.number (sector v b)) out) (proper_args (read (length out)) p)

  call_number : (c : Call) → Proper vol v i a c → (outcome seals v a c).0 ≡ answer_number (reply (first_of (late (own seals vol) i (at vol v i) c)) (result (own seals vol) i (at vol v i) c))
  unfolding outcome
  call_number c p = ap answer_number (proper_answer c p)

  mend_number : Proper vol v i a mend → (outcome seals v a mend).0 ≡ verdict_number (judge (own seals vol) i (at vol v i))
  mend_number p = call_number mend p ∙ number_by (judge (own seals vol) i (at vol v i)) (found (verdict_doubt (judge (own seals vol) i (at vol v i)))) refl

read_number : (seals : Schemes) (vol : Volume) (v : Triple) (i : ℕ) (a : Args) (out : List ℕ) → ProperRead vol v i a out → (read_outcome seals v a out).0 ≡ verdict_number (judge (own seals vol) i (at vol v i))
read_number seals vol v i a out p = ap (λ (r : ℕ × List ℕ). r.0) (read_answer seals vol v i a out p) ∙ outcome_number (judge (own seals vol) i (at vol v i)) out

-- a read and a mend of one sector answer the same number
mend_as_read : (seals : Schemes) (vol : Volume) (v : Triple) (i : ℕ) (a b : Args) (out : List ℕ) → ProperRead vol v i a out → Proper vol v i b mend → (read_outcome seals v a out).0 ≡ (outcome seals v b mend).0
mend_as_read seals vol v i a b out p q = read_number seals vol v i a out p ∙ sym (mend_number seals vol v i b q)

-- ---- refusal 6

-- a stage refuses 10 or is done
stage_6 : (b : Bool) → answer_number (reply (cond {A = Option ℕ} b (some 10) none) done) ≡ 6 → ⊥
stage_6 true e = omega arith
stage_6 false e = omega arith

call_6 : (S : Scheme) (i : ℕ) (t : Triple) (c : Call) → answer_number (reply (first_of (late S i t c)) (result S i t c)) ≡ 6 → judge S i t ≡ lost
call_6 S i t blank e = absurd (omega arith)
call_6 S i t (first P) e = absurd (stage_6 (not (is_whole (judge S i t))) e)
call_6 S i t (second P) e = absurd (stage_6 (not (fits S i t local P)) e)
call_6 S i t (third P) e = absurd (stage_6 (not (fits S i t local P && fits S i t tag P)) e)
call_6 S i t mend e = number_lost (judge S i t) (sym (number_by (judge S i t) (result S i t mend) refl) ∙ e)
call_6 S i t (read o) e = number_lost (judge S i t) (sym (number_by (judge S i t) (result S i t (read o)) refl) ∙ e)

-- ---- one sector

module _ (seals : Schemes) (sound : AllSound seals) (vol : Volume) (v : Triple) (I : Images vol.size vol.count v) (i : ℕ) (lt : i < vol.count) where
  here : Sector vol.size (at vol v i)
  here = sector_images vol.size vol.count i lt v I

  -- a proper call shows that the volume's sealing is lawful
  proper_lawful : (a : Args) (c : Call) → Proper vol v i a c → Lawful vol.size (own seals vol)
  proper_lawful a c p = subst (λ (b : Args). Lawful b.volume.size (sealing seals b)) (proper_args seals vol v i a c p) (passed_lawful seals sound v a (passed v a c p.passes).common)

  sure : (P : List ℕ) → Agree vol.size (own seals vol) i (at vol v i) (kept P none) → Sure seals vol v i P
  unfolding outcome
  sure P g = record { read_gives = reads; first_accepted = accepts; first_leaves = fits_local }
    where
      judged_whole : (a : Args) (c : Call) → Proper vol v i a c → judge (own seals vol) i (at vol v i) ≡ whole P
      judged_whole a c p = judge_sure vol.size (own seals vol) (proper_lawful a c p) i (at vol v i) here P g

      reads : (a : Args) (out : List ℕ) → ProperRead vol v i a out → read_outcome seals v a out ≡ (0, P)
      reads a out p = read_answer seals vol v i a out p ∙ ap (λ (w : Verdict). verdict_outcome w out) (judged_whole a (read (length out)) p)

      accepted : (Q : List ℕ) (a : Args) → Proper vol v i a (first Q) → first_of (late (own seals vol) i (at vol v i) (first Q)) ≡ none
      accepted Q a p = whole_accepted (own seals vol) i (at vol v i) Q P (judged_whole a (first Q) p)

      accepts : (a : Args) (Q : List ℕ) → Proper vol v i a (first Q) → (outcome seals v a (first Q)).0 ≡ 0
      accepts a Q p = call_number seals vol v i a (first Q) p ∙ ap (λ (r : Option ℕ). answer_number (reply r done)) (accepted Q a p)

      fits_local : (a : Args) (Q : List ℕ) → Proper vol v i a (first Q) → Fits (own seals vol) i (at vol (outcome seals v a (first Q)).1 i) local Q
      fits_local a Q p =
          subst (λ (b : Args). Fits (sealing seals b) b.number (sector (after seals v a (first Q)) b) local Q) (proper_args seals vol v i a (first Q) p)
          (first_landed seals sound v (any_bytes vol.size vol.count v I) a Q p.lent (proper_refusal seals vol v i a (first Q) p ∙ accepted Q a p))

  module _ (L : Lawful vol.size (own seals vol)) (P : List ℕ) (q : Place) (g : Agree vol.size (own seals vol) i (at vol v i) (kept P (some q))) where
    two_here : FitsTwo (own seals vol) i (at vol v i) P
    two_here = agree_two vol.size (own seals vol) i (at vol v i) P (some q) g

    reads_unsure : (out : List ℕ) (w : Verdict) → Means vol.size (own seals vol) i (at vol v i) w → Reads seals vol v i P q out (verdict_outcome w out)
    reads_unsure out (whole Q) m =
        let e : P ≡ Q = one_for_all vol.size (own seals vol) L i (at vol v i) Q P m.0 g.0 m.1 two_here in
        fits_too (λ o. o.3 (one_for_all vol.size (own seals vol) L i (at vol v i) Q o.0 m.0 o.1 m.1 o.2 ∙ sym e))
        (subst (λ (R : List ℕ). Fits (own seals vol) i (at vol v i) q R) (sym e) (m.1 q))
        (ap (λ (R : List ℕ). (0, R)) (sym e))
    reads_unsure out (doubtful d Q) m =
        let u = agree_doubtful vol.size (own seals vol) i (at vol v i) P Q (some q) d g m in
        let r : q ≡ d = some_inj u.1 in
        fits_not (λ o. o.3 (m.2 o.0 o.1 o.2 ∙ sym u.0))
        (λ f. m.3 (subst (λ (z : Place). Fits (own seals vol) i (at vol v i) z Q) r (subst (λ (R : List ℕ). Fits (own seals vol) i (at vol v i) q R) u.0 f)))
        (ap₂ (λ (z : Place) (R : List ℕ). (doubt_number z, R)) (sym r) (sym u.0))
    reads_unsure out lost m = absurd (m P g.0 two_here)
    reads_unsure out clashing m = go (same m.0 P) refl
      where
        go : (b : Bool) → same m.0 P ≡ b → Reads seals vol v i P q out (7, out)
        go true e = clashes (m.1, m.3, m.5, λ z. m.6 (same_eq m.0 P e ∙ sym z)) refl
        go false e = clashes (m.0, m.2, m.4, ne_same m.0 P e) refl

  unsure : (P : List ℕ) (q : Place) → Agree vol.size (own seals vol) i (at vol v i) (kept P (some q)) → Unsure seals vol v i P q
  unsure P q g = record { reads = λ a out p. subst (λ (r : ℕ × List ℕ). Reads seals vol v i P q out r) (sym (read_answer seals vol v i a out p)) (go a out p) }
    where
      go : (a : Args) (out : List ℕ) → ProperRead vol v i a out → Reads seals vol v i P q out (verdict_outcome (judge (own seals vol) i (at vol v i)) out)
      go a out p =
          let L = proper_lawful a (read (length out)) p in
          reads_unsure L P q g out (judge (own seals vol) i (at vol v i)) (judge_means vol.size (own seals vol) L i (at vol v i) here)

  is_found : (P : List ℕ) (d : Option Place) → Agree vol.size (own seals vol) i (at vol v i) (kept P d) → Found seals vol v i
  is_found P d g = record {
    not_lost = not_lost;
    never_6 = λ a c p e. not_lost (lost_here a c p (call_6 (own seals vol) i (at vol v i) c (sym (call_number seals vol v i a c p) ∙ e)));
    read_never_6 = λ a out p e. not_lost (lost_here a (read (length out)) p (number_lost (judge (own seals vol) i (at vol v i)) (sym (read_number seals vol v i a out p) ∙ e)));
  }
    where
      not_lost : Means vol.size (own seals vol) i (at vol v i) lost → ⊥
      not_lost m = m P g.0 (agree_two vol.size (own seals vol) i (at vol v i) P d g)

      lost_here : (a : Args) (c : Call) → Proper vol v i a c → judge (own seals vol) i (at vol v i) ≡ lost → Means vol.size (own seals vol) i (at vol v i) lost
      lost_here a c p e = subst (λ (w : Verdict). Means vol.size (own seals vol) i (at vol v i) w) e (judge_means vol.size (own seals vol) (proper_lawful a c p) i (at vol v i) here)

  promise : (x : Held) → Agree vol.size (own seals vol) i (at vol v i) x → Promise seals vol v i x
  promise gone g = tt
  promise (kept P none) g = (is_found P none g, sure P g)
  promise (kept P (some q)) g = (is_found P (some q) g, unsure P q g)

-- ---- all sectors

module _ (seals : Schemes) (sound : AllSound seals) (vol : Volume) (v : Triple) (h : State) where
  -- what is promised of all sectors, from what is promised of each
  pub promised_by : AnyBytes v → ((i : ℕ) → i < vol.count → Promise seals vol v i (h i)) → Promised seals vol v h
  promised_by b held = record { held = held; mend_7 = λ i a b out p q. (λ e. sym (mend_as_read seals vol v i a b out p q) ∙ e, λ e. mend_as_read seals vol v i a b out p q ∙ e); others = call_others seals sound vol v b }

  pub promised : Agrees seals vol v h → Promised seals vol v h
  promised g = promised_by (any_bytes vol.size vol.count v g.images) (λ i lt. promise seals sound vol v g.images i lt (h i) (g.agree i lt))
