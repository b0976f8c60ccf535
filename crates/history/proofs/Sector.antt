-- One sector: what the machine holds of it agrees with its places, and each event keeps this. Assumes nothing but the laws of the sealing.
use mathlib.Core.Path.{◌≡◌, refl, sym, ◌∙◌, ap, subst}
use mathlib.Core.Logic.{◌⊎◌, inl, inr}
use mathlib.Core.Bool.{Bool, true, false, ◌&&◌, not, cond}
use mathlib.Core.List.{List, [], ◌∷◌}
use mathlib.Core.Option.{Option, none, some}
use Prim.Native.Nat.{ℕ}
use lib.ListN.{replicate}
use borrow.Author.Tests.{not-false}
use Rattle.block.specs.Bytes.{Plain}
use Rattle.mode.specs.Sealing.{Triple}
use Rattle.mode.specs.Scheme.{Place, local, tag, remote, on, wide, Scheme, Sector, Lawful}
use Rattle.verdict.specs.Verdict.{Fits, FitsTwo, Verdict, whole, doubtful, lost, clashing, Means, fits, judge}
use Rattle.answers.specs.Rules.{rule, first_of}
use Rattle.history.specs.Answers.{is_whole}
use Rattle.history.specs.Volume.{store, Call, blank, first, second, third, mend, read, judge_rules, late, mends, writes}
use Rattle.history.specs.Machine.{told_cut, Held, gone, kept, step, after_damage, is_place}
use Rattle.history.specs.Power.{Cut, Fate, finished, cut, CutOf, torn, told}
use Rattle.history.specs.HistoryFrom.{Agree}
use Rattle.block.proofs.Lists.{clash, false-true, and_left, and_right, and_both, plain_zeros}
use Rattle.history.proofs.Options.{none_some, some_inj}
use Rattle.verdict.proofs.JudgeExact.{same_place, FitsBut, fits-Fits, Fits-fits, but_two, but_miss, one_for_all, judge_means, means_once}
use Rattle.answers.proofs.Rules.{cond_none, only_rule}
use Rattle.history.proofs.Refusals.{Sized}

-- bytes for each place, stored in some of the places
abbrev pub store_all : (Place → List ℕ) → List Place → Triple → Triple
store_all b [] t = t
store_all b (p ∷ ps) t = store_all b ps (store p (b p) t)

-- the bytes in a place that a call with this fate writes, of those that it writes and those that it found
abbrev pub lands : Fate → Triple → Triple → Place → List ℕ
lands finished written found p = on written p
lands (cut k) written found p = torn k written found p

-- what a call on sector i with this fate, if it is not refused, leaves in its places t
abbrev pub sector_after : ℕ → Scheme → ℕ → Triple → Call → Fate → Triple
sector_after s S i t c f = store_all (lands f (S.sealed i (writes s S i t c).plain) t) (writes s S i t c).places t

pub on_store : (p : Place) (b : List ℕ) (t : Triple) → on (store p b t) p ≡ b
on_store local b t = refl
on_store tag b t = refl
on_store remote b t = refl

pub on_store_other : (p q : Place) (b : List ℕ) (t : Triple) → (q ≡ p → ⊥) → on (store p b t) q ≡ on t q
on_store_other local local b t n = absurd (n refl)
on_store_other local tag b t n = refl
on_store_other local remote b t n = refl
on_store_other tag local b t n = refl
on_store_other tag tag b t n = absurd (n refl)
on_store_other tag remote b t n = refl
on_store_other remote local b t n = refl
on_store_other remote tag b t n = refl
on_store_other remote remote b t n = absurd (n refl)

-- ---- what is held, and the verdict

module _ (s : ℕ) (S : Scheme) (i : ℕ) (t : Triple) where
  -- a kept plaintext fits every place but one
  pub agree_but : (P : List ℕ) (d : Option Place) → Agree s S i t (kept P d) → (q : Place) × FitsBut S i t q P
  agree_but P none g = (local, λ p n. g.1 p none_some)
  agree_but P (some q) g = (q, λ p n. g.1 p (λ e. n (sym (some_inj e))))

  pub agree_two : (P : List ℕ) (d : Option Place) → Agree s S i t (kept P d) → FitsTwo S i t P
  agree_two P d g = let b = agree_but P d g in but_two S i t b.0 P b.1

  -- where the verdict is doubtful, it names the kept plaintext and the place in doubt
  pub agree_doubtful : (P Q : List ℕ) (d : Option Place) (q : Place) → Agree s S i t (kept P d) → Means s S i t (doubtful q Q) → (P ≡ Q) × (d ≡ some q) × FitsBut S i t q P
  unfolding agree_but
  agree_doubtful P Q none q g m =
      let e : P ≡ Q = m.2 P g.0 (agree_two P none g) in
      absurd (m.3 (subst (λ (R : List ℕ). Fits S i t q R) e (g.1 q none_some)))
  agree_doubtful P Q (some r) q g m =
      let e : P ≡ Q = m.2 P g.0 (agree_two P (some r) g) in
      let b = agree_but P (some r) g in
      let z : q ≡ r = but_miss S i t r q P b.1 (λ x. m.3 (subst (λ (R : List ℕ). Fits S i t q R) e x)) in
      (e, ap some (sym z), λ p n. b.1 p (λ y. n (y ∙ sym z)))

pub is_whole_lem : (w : Verdict) → is_whole w ≡ true → (Q : List ℕ) × (w ≡ whole Q)
unfolding is_whole
is_whole_lem (whole Q) e = (Q, refl)
is_whole_lem (doubtful d Q) e = false-true e
is_whole_lem lost e = false-true e
is_whole_lem clashing e = false-true e

-- ---- bytes that are written

abbrev pub AllPlain : ℕ → (Place → List ℕ) → List Place → Type 0
AllPlain s b [] = Unit {0}
AllPlain s b (p ∷ ps) = Plain (wide s p) (b p) × AllPlain s b ps

module _ (s : ℕ) (S : Scheme) (L : Lawful s S) (i : ℕ) (t : Triple) (σ : Sector s t) where
  lands_plain : (f : Fate) → CutOf s f → (P : List ℕ) → Plain s P → (p : Place) → Plain (wide s p) (lands f (S.sealed i P) t p)
  lands_plain finished l P h p = (L.shape i P h).places p
  lands_plain (cut k) l P h local = l.0
  lands_plain (cut k) l P h tag = go k.new_tag
    where
      go : (b : Bool) → Plain 16 (cond b (S.sealed i P).tag t.tag)
      go true = (L.shape i P h).places tag
      go false = σ.places tag
  lands_plain (cut k) l P h remote = l.1

  lands_all : (f : Fate) → CutOf s f → (P : List ℕ) → Plain s P → (ps : List Place) → AllPlain s (lands f (S.sealed i P) t) ps
  lands_all f l P h [] = tt
  lands_all f l P h (p ∷ ps) = (lands_plain f l P h p, lands_all f l P h ps)

  mends_plain : (f : Fate) → CutOf s f → (w : Verdict) → Means s S i t w → AllPlain s (lands f (S.sealed i (mends w).plain) t) (mends w).places
  mends_plain f l (whole Q) m = lands_all f l Q m.0 (mends (whole Q)).places
  mends_plain f l (doubtful q Q) m = lands_all f l Q m.0 (mends (doubtful q Q)).places
  mends_plain f l lost m = tt
  mends_plain f l clashing m = tt

  -- what lands in a place has that place's length
  pub writes_plain : (c : Call) (f : Fate) → CutOf s f → Sized s c → AllPlain s (lands f (S.sealed i (writes s S i t c).plain) t) (writes s S i t c).places
  writes_plain blank f l z = lands_all f l (replicate s 0) (plain_zeros s) (writes s S i t blank).places
  writes_plain (first P) f l z = lands_all f l P z (writes s S i t (first P)).places
  writes_plain (second P) f l z = lands_all f l P z (writes s S i t (second P)).places
  writes_plain (third P) f l z = lands_all f l P z (writes s S i t (third P)).places
  writes_plain mend f l z = mends_plain f l (judge S i t) (judge_means s S L i t σ)
  writes_plain (read o) f l z = tt

  -- ---- the calls

  -- without doubt the verdict is whole
  pub judge_sure : (P : List ℕ) → Agree s S i t (kept P none) → judge S i t ≡ whole P
  judge_sure P g = means_once s S L i t (judge S i t) (whole P) (judge_means s S L i t σ) (g.0, λ p. g.1 p none_some)

  -- where another plaintext fits all three, it is the kept one
  agree_whole : (P Q : List ℕ) (d : Option Place) → Agree s S i t (kept P d) → Means s S i t (whole Q) → (p : Place) → Fits S i t p P
  agree_whole P Q d g m p = subst (λ (R : List ℕ). Fits S i t p R) (sym (one_for_all s S L i t Q P m.0 g.0 m.1 (agree_two s S i t P d g))) (m.1 p)

  -- a first stage is accepted only where the kept plaintext fits all three
  first_whole : (Q P : List ℕ) (d : Option Place) → first_of (late S i t (first Q)) ≡ none → Agree s S i t (kept P d) → (p : Place) → Fits S i t p P
  first_whole Q P d e g =
      let w = is_whole_lem (judge S i t) (not-false (is_whole (judge S i t)) (cond_none (not (is_whole (judge S i t))) 10 _ e).0) in
      agree_whole P w.0 d g (subst (λ (u : Verdict). Means s S i t u) w.1 (judge_means s S L i t σ))

  -- what is held agrees after the call
  abbrev pub Keeps : Call → Fate → Held → Type 0
  Keeps c f x = Agree s S i (sector_after s S i t c f) (step s c (told S i (sector_after s S i t c f) c f) x)

  keeps_blank : (f : Fate) (x : Held) → Keeps blank f x
  keeps_blank finished x = (plain_zeros s, fit)
    where
      fit : (p : Place) → (none ≡ some p → ⊥) → Fits S i (sector_after s S i t blank finished) p (replicate s 0)
      fit local n = refl
      fit tag n = refl
      fit remote n = refl
  keeps_blank (cut k) x = tt

  -- only the local place has changed, to any bytes
  local_only : (u : Triple) → u.tag ≡ t.tag → u.remote ≡ t.remote → (P : List ℕ) → Plain s P → ((p : Place) → Fits S i t p P) → Agree s S i u (kept P (some local))
  local_only u eg er P h f = (h, fit)
    where
      fit : (p : Place) → (some local ≡ some p → ⊥) → Fits S i u p P
      fit local n = absurd (n refl)
      fit tag n = eg ∙ f tag
      fit remote n = er ∙ f remote

  keeps_first : (Q : List ℕ) (f : Fate) (x : Held) → first_of (late S i t (first Q)) ≡ none → Agree s S i t x → Keeps (first Q) f x
  keeps_first Q finished gone e g = tt
  keeps_first Q (cut k) gone e g = tt
  keeps_first Q finished (kept P d) e g = local_only (sector_after s S i t (first Q) finished) refl refl P g.0 (first_whole Q P d e g)
  keeps_first Q (cut k) (kept P d) e g = local_only (sector_after s S i t (first Q) (cut k)) refl refl P g.0 (first_whole Q P d e g)

  second_local : (P : List ℕ) → first_of (late S i t (second P)) ≡ none → Fits S i t local P
  second_local P e = fits-Fits S i t local P (not-false (fits S i t local P) (only_rule (not (fits S i t local P)) 10 e))

  tagged : (b : List ℕ) (P : List ℕ) → Plain s P → Fits S i t local P → b ≡ (S.sealed i P).tag → Agree s S i (store tag b t) (kept P (some remote))
  tagged b P h f e = (h, fit)
    where
      fit : (p : Place) → (some remote ≡ some p → ⊥) → Fits S i (store tag b t) p P
      fit local n = f
      fit tag n = e
      fit remote n = absurd (n refl)

  -- after a cut second stage with the tag new or old
  abbrev retagged : List ℕ → Bool → Triple
  retagged P b = store tag (cond b (S.sealed i P).tag t.tag) t

  second_cut : (P : List ℕ) (x : Held) → Plain s P → Fits S i t local P → Agree s S i t x → (new u : Bool) → fits S i (retagged P new) tag P ≡ u → Agree s S i (retagged P new) (step s (second P) (told_cut u) x)
  second_cut P x h l g new true e = tagged (cond new (S.sealed i P).tag t.tag) P h l (fits-Fits S i (retagged P new) tag P e)
  second_cut P x h l g true false e = clash (Fits-fits S i (retagged P true) tag P refl) e
  second_cut P x h l g false false e = g

  keeps_second : (P : List ℕ) (f : Fate) (x : Held) → Plain s P → first_of (late S i t (second P)) ≡ none → Agree s S i t x → Keeps (second P) f x
  keeps_second P finished x h e g = tagged (S.sealed i P).tag P h (second_local P e) refl
  keeps_second P (cut k) x h e g = second_cut P x h (second_local P e) g k.new_tag (fits S i (retagged P k.new_tag) tag P) refl

  third_fits : (P : List ℕ) → first_of (late S i t (third P)) ≡ none → Fits S i t local P × Fits S i t tag P
  third_fits P e =
      let u = not-false (fits S i t local P && fits S i t tag P) (only_rule (not (fits S i t local P && fits S i t tag P)) 10 e) in
      (fits-Fits S i t local P (and_left (fits S i t local P) (fits S i t tag P) u), fits-Fits S i t tag P (and_right (fits S i t local P) (fits S i t tag P) u))

  keeps_third : (P : List ℕ) (f : Fate) (x : Held) → Plain s P → first_of (late S i t (third P)) ≡ none → Keeps (third P) f x
  keeps_third P finished x h e = (h, fit)
    where
      fit : (p : Place) → (none ≡ some p → ⊥) → Fits S i (sector_after s S i t (third P) finished) p P
      fit local n = (third_fits P e).0
      fit tag n = (third_fits P e).1
      fit remote n = refl
  keeps_third P (cut k) x h e = (h, fit)
    where
      fit : (p : Place) → (some remote ≡ some p → ⊥) → Fits S i (sector_after s S i t (third P) (cut k)) p P
      fit local n = (third_fits P e).0
      fit tag n = (third_fits P e).1
      fit remote n = absurd (n refl)

  -- after a mend that found the verdict w
  abbrev mended : Verdict → Fate → Triple
  mended w f = store_all (lands f (S.sealed i (mends w).plain) t) (mends w).places t

  mend_finished : (w : Verdict) → Means s S i t w → first_of (judge_rules w) ≡ none → (P : List ℕ) (d : Option Place) → Agree s S i t (kept P d) → Agree s S i (mended w finished) (kept P none)
  mend_finished (whole Q) m e P d g = (g.0, λ p n. agree_whole P Q d g m p)
  mend_finished (doubtful q Q) m e P d g = (g.0, λ p n. fit p (same_place p q))
    where
      u : (P ≡ Q) × (d ≡ some q) × FitsBut S i t q P
      u = agree_doubtful s S i t P Q d q g m

      fit : (p : Place) → (p ≡ q) ⊎ (p ≡ q → ⊥) → Fits S i (store q (on (S.sealed i Q) q) t) p P
      fit p (inl z) = subst (λ (r : Place). Fits S i (store q (on (S.sealed i Q) q) t) r P) (sym z) (on_store q (on (S.sealed i Q) q) t ∙ ap (λ (R : List ℕ). on (S.sealed i R) q) (sym u.0))
      fit p (inr n) = on_store_other q p (on (S.sealed i Q) q) t n ∙ u.2 p n
  mend_finished lost m e P d g = absurd (m P g.0 (agree_two s S i t P d g))
  mend_finished clashing m e P d g = clash refl (only_rule true 7 e)

  mend_cut : (w : Verdict) (k : Cut) → Means s S i t w → first_of (judge_rules w) ≡ none → (P : List ℕ) (d : Option Place) → Agree s S i t (kept P d) → Agree s S i (mended w (cut k)) (kept P d)
  mend_cut (whole Q) k m e P d g = g
  mend_cut (doubtful q Q) k m e P d g = (g.0, fit)
    where
      u : (P ≡ Q) × (d ≡ some q) × FitsBut S i t q P
      u = agree_doubtful s S i t P Q d q g m

      fit : (p : Place) → (d ≡ some p → ⊥) → Fits S i (store q (lands (cut k) (S.sealed i Q) t q) t) p P
      fit p n = on_store_other q p (lands (cut k) (S.sealed i Q) t q) t (λ z. n (u.1 ∙ ap some (sym z))) ∙ u.2 p (λ z. n (u.1 ∙ ap some (sym z)))
  mend_cut lost k m e P d g = absurd (m P g.0 (agree_two s S i t P d g))
  mend_cut clashing k m e P d g = clash refl (only_rule true 7 e)

  keeps_mend : (f : Fate) (x : Held) → first_of (late S i t mend) ≡ none → Agree s S i t x → Keeps mend f x
  keeps_mend finished gone e g = tt
  keeps_mend (cut k) gone e g = tt
  keeps_mend finished (kept P d) e g = mend_finished (judge S i t) (judge_means s S L i t σ) e P d g
  keeps_mend (cut k) (kept P d) e g = mend_cut (judge S i t) k (judge_means s S L i t σ) e P d g

  keeps_read : (o : ℕ) (f : Fate) (x : Held) → Agree s S i t x → Keeps (read o) f x
  keeps_read o finished x g = g
  keeps_read o (cut k) x g = g

  -- every call that is not refused
  pub keeps : (c : Call) (f : Fate) (x : Held) → Sized s c → first_of (late S i t c) ≡ none → Agree s S i t x → Keeps c f x
  keeps blank f x h e g = keeps_blank f x
  keeps (first Q) f x h e g = keeps_first Q f x e g
  keeps (second P) f x h e g = keeps_second P f x h e g
  keeps (third P) f x h e g = keeps_third P f x h e
  keeps mend f x h e g = keeps_mend f x e g
  keeps (read o) f x h e g = keeps_read o f x g

-- ---- where the last refusals let a call pass

module _ (S : Scheme) (i : ℕ) (t : Triple) where
  pub whole_accepted : (P Q : List ℕ) → judge S i t ≡ whole Q → first_of (late S i t (first P)) ≡ none
  unfolding is_whole
  whole_accepted P Q e = ap (λ (u : Verdict). first_of (rule 10 (not (is_whole u)) ∷ [])) e

  pub local_accepted : (P : List ℕ) → Fits S i t local P → first_of (late S i t (second P)) ≡ none
  local_accepted P f = ap (λ (x : Bool). first_of (rule 10 (not x) ∷ [])) (Fits-fits S i t local P f)

  pub tagged_accepted : (P : List ℕ) → Fits S i t local P → Fits S i t tag P → first_of (late S i t (third P)) ≡ none
  tagged_accepted P f g =
      ap (λ (x : Bool). first_of (rule 10 (not x) ∷ []))
      (and_both (fits S i t local P) (fits S i t tag P) (Fits-fits S i t local P f) (Fits-fits S i t tag P g))

-- ---- damage

pub is_place_lem : (q p : Place) → is_place q p ≡ true → q ≡ p
is_place_lem local local e = refl
is_place_lem local tag e = false-true e
is_place_lem local remote e = false-true e
is_place_lem tag local e = false-true e
is_place_lem tag tag e = refl
is_place_lem tag remote e = false-true e
is_place_lem remote local e = false-true e
is_place_lem remote tag e = false-true e
is_place_lem remote remote e = refl

pub keeps_hurt : (s : ℕ) (S : Scheme) (i : ℕ) (t : Triple) (p : Place) (b : List ℕ) (x : Held) → Agree s S i t x → Agree s S i (store p b t) (after_damage p x)
keeps_hurt s S i t p b gone g = tt
keeps_hurt s S i t p b (kept P none) g = (g.0, λ q n. on_store_other p q b t (λ z. n (ap some (sym z))) ∙ g.1 q none_some)
keeps_hurt s S i t p b (kept P (some q)) g = go (is_place q p) (is_place_lem q p)
  where
    go : (u : Bool) → (u ≡ true → q ≡ p) → Agree s S i (store p b t) (cond u (kept P (some q)) gone)
    go true w = (g.0, λ r n. on_store_other p r b t (λ z. n (ap some (w refl ∙ sym z))) ∙ g.1 r n)
    go false w = tt
