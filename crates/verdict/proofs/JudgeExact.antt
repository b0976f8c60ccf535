-- `judge` gives the one verdict that the document's definition allows. Assumes nothing but the laws of the sealing.
use mathlib.Core.Path.{◌≡◌, refl, sym, ◌∙◌, ap, ap₂, subst}
use mathlib.Core.Logic.{◌⊎◌, inl, inr}
use mathlib.Core.Bool.{Bool, true, false, ◌&&◌, cond}
use mathlib.Core.List.{List, [], ◌∷◌}
use Prim.Native.Nat.{ℕ}
use Rattle.block.specs.Bytes.{Plain, xor_bytes, same}
use Rattle.block.proofs.Lists.{false-true, same_eq, eq_same, ne_same, plain_xor}
use Rattle.mode.specs.Sealing.{Triple}
use Rattle.mode.specs.Scheme.{Place, local, tag, remote, on, Sector, Scheme, Lawful}
use Rattle.verdict.specs.Verdict.{Fits, FitsTwo, Verdict, whole, doubtful, lost, clashing, Means, two, fits, candidate, fits_two, grade, keep, all, weigh, judge, JudgeExact}

-- ---- places

abbrev EqPlace : Place → Place → Type 0
EqPlace local local = Unit {0}
EqPlace local tag = ⊥
EqPlace local remote = ⊥
EqPlace tag local = ⊥
EqPlace tag tag = Unit {0}
EqPlace tag remote = ⊥
EqPlace remote local = ⊥
EqPlace remote tag = ⊥
EqPlace remote remote = Unit {0}

diff : (p q : Place) → (EqPlace p q → ⊥) → p ≡ q → ⊥
diff p q n e = n (subst (λ (r : Place). EqPlace p r) e (self p))
  where
    self : (r : Place) → EqPlace r r
    self local = tt
    self tag = tt
    self remote = tt

pub same_place : (p q : Place) → (p ≡ q) ⊎ (p ≡ q → ⊥)
same_place local local = inl refl
same_place local tag = inr (diff local tag (λ x. x))
same_place local remote = inr (diff local remote (λ x. x))
same_place tag local = inr (diff tag local (λ x. x))
same_place tag tag = inl refl
same_place tag remote = inr (diff tag remote (λ x. x))
same_place remote local = inr (diff remote local (λ x. x))
same_place remote tag = inr (diff remote tag (λ x. x))
same_place remote remote = inl refl

pub local_tag : local ≡ tag → ⊥
local_tag = diff local tag (λ x. x)

pub local_remote : local ≡ remote → ⊥
local_remote = diff local remote (λ x. x)

pub tag_remote : tag ≡ remote → ⊥
tag_remote = diff tag remote (λ x. x)

-- ---- lists

abbrev In : List ℕ → List (List ℕ) → Type 0
In P [] = ⊥
In P (Q ∷ Qs) = (P ≡ Q) ⊎ In P Qs

keep_in : (f : List ℕ → Bool) (P : List ℕ) (Ps : List (List ℕ)) → f P ≡ true → In P Ps → In P (keep f Ps)
keep_in f P [] h i = i
keep_in f P (Q ∷ Qs) h (inl e) = subst (λ (b : Bool). In P (cond b (Q ∷ keep f Qs) (keep f Qs))) (sym h ∙ ap f e) (inl e)
keep_in f P (Q ∷ Qs) h (inr i) = go (f Q) (keep_in f P Qs h i)
  where
    go : (b : Bool) → In P (keep f Qs) → In P (cond b (Q ∷ keep f Qs) (keep f Qs))
    go true j = inr j
    go false j = j

in_keep : (f : List ℕ → Bool) (P : List ℕ) (Ps : List (List ℕ)) → In P (keep f Ps) → In P Ps × (f P ≡ true)
in_keep f P [] i = absurd i
in_keep f P (Q ∷ Qs) i = go (f Q) refl (in_keep f P Qs) i
  where
    go : (b : Bool) → f Q ≡ b → (In P (keep f Qs) → In P Qs × (f P ≡ true)) → In P (cond b (Q ∷ keep f Qs) (keep f Qs)) → ((P ≡ Q) ⊎ In P Qs) × (f P ≡ true)
    go true e r (inl h) = (inl h, ap f h ∙ e)
    go true e r (inr j) = (inr (r j).0, (r j).1)
    go false e r j = (inr (r j).0, (r j).1)

all_in : (f : List ℕ → Bool) (P : List ℕ) (Ps : List (List ℕ)) → all f Ps ≡ true → In P Ps → f P ≡ true
all_in f P [] h i = absurd i
all_in f P (Q ∷ Qs) h i = go (f Q) refl (all_in f P Qs) h i
  where
    go : (b : Bool) → f Q ≡ b → (all f Qs ≡ true → In P Qs → f P ≡ true) → (b && all f Qs) ≡ true → (P ≡ Q) ⊎ In P Qs → f P ≡ true
    go true e r k (inl j) = ap f j ∙ e
    go true e r k (inr j) = r k j
    go false e r k j = false-true k

not_all : (f : List ℕ → Bool) (Ps : List (List ℕ)) → all f Ps ≡ false → (P : List ℕ) × In P Ps × (f P ≡ false)
not_all f [] h = false-true (sym h)
not_all f (Q ∷ Qs) h = go (f Q) refl (not_all f Qs) h
  where
    go : (b : Bool) → f Q ≡ b → (all f Qs ≡ false → (P : List ℕ) × In P Qs × (f P ≡ false)) → (b && all f Qs) ≡ false → (P : List ℕ) × In P (Q ∷ Qs) × (f P ≡ false)
    go true e r k = ((r k).0, inr (r k).1, (r k).2)
    go false e r k = (Q, inl refl, e)

-- ---- one sector

-- P fits every place but d
abbrev pub FitsBut : Scheme → ℕ → Triple → Place → List ℕ → Type 0
FitsBut S T t d P = (p : Place) → (p ≡ d → ⊥) → Fits S T t p P

module _ (S : Scheme) (T : ℕ) (t : Triple) where
  pub fits-Fits : (p : Place) (P : List ℕ) → fits S T t p P ≡ true → Fits S T t p P
  unfolding fits
  fits-Fits p P e = same_eq (on t p) (on (S.sealed T P) p) e

  pub Fits-fits : (p : Place) (P : List ℕ) → Fits S T t p P → fits S T t p P ≡ true
  unfolding fits
  Fits-fits p P e = eq_same e

  pub misfits : (p : Place) (P : List ℕ) → fits S T t p P ≡ false → Fits S T t p P → ⊥
  unfolding fits
  misfits p P e f = ne_same (on t p) (on (S.sealed T P) p) e f

  pub but_local : (P : List ℕ) → Fits S T t tag P → Fits S T t remote P → FitsBut S T t local P
  but_local P x y local n = absurd (n refl)
  but_local P x y tag n = x
  but_local P x y remote n = y

  pub but_tag : (P : List ℕ) → Fits S T t local P → Fits S T t remote P → FitsBut S T t tag P
  but_tag P x y local n = x
  but_tag P x y tag n = absurd (n refl)
  but_tag P x y remote n = y

  pub but_remote : (P : List ℕ) → Fits S T t local P → Fits S T t tag P → FitsBut S T t remote P
  but_remote P x y local n = x
  but_remote P x y tag n = y
  but_remote P x y remote n = absurd (n refl)

  pub two_but : (P : List ℕ) → FitsTwo S T t P → (d : Place) × FitsBut S T t d P
  two_but P f = go f.one f.other f.apart f.fits_one f.fits_other
    where
      go : (p q : Place) → (p ≡ q → ⊥) → Fits S T t p P → Fits S T t q P → (d : Place) × FitsBut S T t d P
      go local local n x y = absurd (n refl)
      go local tag n x y = (remote, but_remote P x y)
      go local remote n x y = (tag, but_tag P x y)
      go tag local n x y = (remote, but_remote P y x)
      go tag tag n x y = absurd (n refl)
      go tag remote n x y = (local, but_local P x y)
      go remote local n x y = (tag, but_tag P y x)
      go remote tag n x y = (local, but_local P y x)
      go remote remote n x y = absurd (n refl)

  pub but_two : (d : Place) (P : List ℕ) → FitsBut S T t d P → FitsTwo S T t P
  but_two local P f = record { one = tag; other = remote; apart = tag_remote; fits_one = f tag (λ e. local_tag (sym e)); fits_other = f remote (λ e. local_remote (sym e)) }
  but_two tag P f = record { one = local; other = remote; apart = local_remote; fits_one = f local local_tag; fits_other = f remote (λ e. tag_remote (sym e)) }
  but_two remote P f = record { one = local; other = tag; apart = local_tag; fits_one = f local local_remote; fits_other = f tag tag_remote }

  fits_two_but : (P : List ℕ) → fits_two S T t P ≡ true → (d : Place) × FitsBut S T t d P
  unfolding fits_two
  fits_two_but P e = go (fits S T t local P) (fits S T t tag P) (fits S T t remote P) refl refl refl e
    where
      go : (x y z : Bool) → fits S T t local P ≡ x → fits S T t tag P ≡ y → fits S T t remote P ≡ z → two x y z ≡ true → (d : Place) × FitsBut S T t d P
      go true true z p q r k = (remote, but_remote P (fits-Fits local P p) (fits-Fits tag P q))
      go true false true p q r k = (tag, but_tag P (fits-Fits local P p) (fits-Fits remote P r))
      go true false false p q r k = false-true k
      go false true true p q r k = (local, but_local P (fits-Fits tag P q) (fits-Fits remote P r))
      go false true false p q r k = false-true k
      go false false z p q r k = false-true k

  but_fits_two : (d : Place) (P : List ℕ) → FitsBut S T t d P → fits_two S T t P ≡ true
  unfolding fits_two
  but_fits_two local P f = go (fits S T t local P) (fits S T t tag P) (fits S T t remote P) (Fits-fits tag P (f tag (λ e. local_tag (sym e)))) (Fits-fits remote P (f remote (λ e. local_remote (sym e))))
    where
      go : (x y z : Bool) → y ≡ true → z ≡ true → two x y z ≡ true
      go true true z p q = refl
      go true false z p q = false-true p
      go false true z p q = q
      go false false z p q = false-true p
  but_fits_two tag P f = go (fits S T t local P) (fits S T t tag P) (fits S T t remote P) (Fits-fits local P (f local local_tag)) (Fits-fits remote P (f remote (λ e. tag_remote (sym e))))
    where
      go : (x y z : Bool) → x ≡ true → z ≡ true → two x y z ≡ true
      go true true z p q = refl
      go true false true p q = refl
      go true false false p q = q
      go false y z p q = false-true p
  but_fits_two remote P f = go (fits S T t local P) (fits S T t tag P) (fits S T t remote P) (Fits-fits local P (f local local_remote)) (Fits-fits tag P (f tag tag_remote))
    where
      go : (x y z : Bool) → x ≡ true → y ≡ true → two x y z ≡ true
      go true true z p q = refl
      go true false z p q = false-true q
      go false y z p q = false-true p

  -- the one place that P does not fit
  pub but_miss : (c d : Place) (P : List ℕ) → FitsBut S T t c P → (Fits S T t d P → ⊥) → d ≡ c
  but_miss c d P f n = go (same_place d c)
    where
      go : (d ≡ c) ⊎ (d ≡ c → ⊥) → d ≡ c
      go (inl e) = e
      go (inr m) = absurd (n (f d m))

-- At most one plaintext fits a given pair of places: the candidate.
module _ (s : ℕ) (S : Scheme) (L : Lawful s S) (T : ℕ) (t : Triple) where
  pub only : (d : Place) (P : List ℕ) → Plain s P → FitsBut S T t d P → P ≡ candidate S T t d
  unfolding candidate
  only local P h f = sym (ap₂ S.open_remote (f tag (λ e. local_tag (sym e))) (f remote (λ e. local_remote (sym e))) ∙ L.right T P h)
  only tag P h f = sym (ap₂ xor_bytes (f local (local_tag)) (f remote (λ e. tag_remote (sym e))) ∙ L.sum T P h)
  only remote P h f = sym (ap₂ S.open_local (f tag (tag_remote)) (f local (local_remote)) ∙ L.left T P h)

  pub one_for_a_pair : (d : Place) (P Q : List ℕ) → Plain s P → Plain s Q → FitsBut S T t d P → FitsBut S T t d Q → P ≡ Q
  one_for_a_pair d P Q h k f g = only d P h f ∙ sym (only d Q k g)

  -- what fits all three is the only one that fits two
  pub one_for_all : (P Q : List ℕ) → Plain s P → Plain s Q → ((p : Place) → Fits S T t p P) → FitsTwo S T t Q → Q ≡ P
  one_for_all P Q h k f g = let u = two_but S T t Q g in one_for_a_pair u.0 Q P k h u.1 (λ p n. f p)

  pub candidate_plain : Sector s t → (d : Place) → Plain s (candidate S T t d)
  unfolding candidate
  candidate_plain σ local = L.plain_remote t.tag t.remote (σ.places tag) (σ.places remote)
  candidate_plain σ tag = plain_xor s t.local t.remote (σ.places local) (σ.places remote)
  candidate_plain σ remote = L.plain_local t.tag t.local (σ.places tag) (σ.places local)

  grade_means : (P : List ℕ) → Plain s P → FitsTwo S T t P → ((Q : List ℕ) → Plain s Q → FitsTwo S T t Q → Q ≡ P) → Means s S T t (grade S T t P)
  unfolding grade
  grade_means P h f u = go (fits S T t local P) (fits S T t tag P) (fits S T t remote P) refl refl refl
    where
      all_three : Fits S T t local P → Fits S T t tag P → Fits S T t remote P → (p : Place) → Fits S T t p P
      all_three x y z local = x
      all_three x y z tag = y
      all_three x y z remote = z

      go : (x y z : Bool) → fits S T t local P ≡ x → fits S T t tag P ≡ y → fits S T t remote P ≡ z → Means s S T t (cond x (cond y (cond z (whole P) (doubtful remote P)) (doubtful tag P)) (doubtful local P))
      go true true true p q r = (h, all_three (fits-Fits S T t local P p) (fits-Fits S T t tag P q) (fits-Fits S T t remote P r))
      go true true false p q r = (h, f, u, misfits S T t remote P r)
      go true false z p q r = (h, f, u, misfits S T t tag P q)
      go false y z p q r = (h, f, u, misfits S T t local P p)

  weigh_means : (Ps : List (List ℕ)) → ((P : List ℕ) → In P Ps → Plain s P × FitsTwo S T t P) → ((P : List ℕ) → Plain s P → FitsTwo S T t P → In P Ps) → Means s S T t (weigh (grade S T t) Ps)
  weigh_means [] sound complete = complete
  weigh_means (P ∷ Ps) sound complete = go (all (same P) Ps) refl
    where
      go : (b : Bool) → all (same P) Ps ≡ b → Means s S T t (cond b (grade S T t P) clashing)
      go true e = grade_means P (sound P (inl refl)).0 (sound P (inl refl)).1 (λ Q k g. pick Q (complete Q k g))
        where
          pick : (Q : List ℕ) → (Q ≡ P) ⊎ In Q Ps → Q ≡ P
          pick Q (inl h) = h
          pick Q (inr i) = sym (same_eq P Q (all_in (same P) Q Ps e i))
      go false e =
          let w = not_all (same P) Ps e in
          (P, w.0, (sound P (inl refl)).0, (sound w.0 (inr w.1)).0, (sound P (inl refl)).1, (sound w.0 (inr w.1)).1, ne_same P w.0 w.2)

  candidates : List (List ℕ)
  candidates = candidate S T t remote ∷ candidate S T t local ∷ candidate S T t tag ∷ []

  in_candidates : (d : Place) → In (candidate S T t d) candidates
  unfolding candidates
  in_candidates local = inr (inl refl)
  in_candidates tag = inr (inr (inl refl))
  in_candidates remote = inl refl

  candidates_plain : Sector s t → (P : List ℕ) → In P candidates → Plain s P
  unfolding candidates
  candidates_plain σ P (inl e) = subst (λ (Q : List ℕ). Plain s Q) (sym e) (candidate_plain σ remote)
  candidates_plain σ P (inr (inl e)) = subst (λ (Q : List ℕ). Plain s Q) (sym e) (candidate_plain σ local)
  candidates_plain σ P (inr (inr (inl e))) = subst (λ (Q : List ℕ). Plain s Q) (sym e) (candidate_plain σ tag)
  candidates_plain σ P (inr (inr (inr i))) = absurd i

  -- The verdict that `judge` gives is one that the document's definition allows,
  pub judge_means : Sector s t → Means s S T t (judge S T t)
  unfolding judge candidates
  judge_means σ = weigh_means (keep (fits_two S T t) candidates) sound complete
    where
      sound : (P : List ℕ) → In P (keep (fits_two S T t) candidates) → Plain s P × FitsTwo S T t P
      sound P i =
          let w = in_keep (fits_two S T t) P candidates i in
          let b = fits_two_but S T t P w.1 in
          (candidates_plain σ P w.0, but_two S T t b.0 P b.1)

      complete : (P : List ℕ) → Plain s P → FitsTwo S T t P → In P (keep (fits_two S T t) candidates)
      complete P h f =
          let b = two_but S T t P f in
          keep_in (fits_two S T t) P candidates (but_fits_two S T t b.0 P b.1)
          (subst (λ (Q : List ℕ). In Q candidates) (sym (only b.0 P h b.1)) (in_candidates b.0))

  -- and no other is.
  pub means_once : (v w : Verdict) → Means s S T t v → Means s S T t w → v ≡ w
  means_once (whole P) (whole Q) x y = ap whole (one_for_all Q P y.0 x.0 y.1 (but_two S T t local P (λ p n. x.1 p)))
  means_once (whole P) (doubtful d Q) x y = absurd (y.3 (subst (λ (R : List ℕ). Fits S T t d R) (y.2 P x.0 (but_two S T t local P (λ p n. x.1 p))) (x.1 d)))
  means_once (whole P) lost x y = absurd (y P x.0 (but_two S T t local P (λ p n. x.1 p)))
  means_once (whole P) clashing x y = absurd (y.6 (one_for_all P y.0 x.0 y.2 x.1 y.4 ∙ sym (one_for_all P y.1 x.0 y.3 x.1 y.5)))
  means_once (doubtful d P) (whole Q) x y = absurd (x.3 (subst (λ (R : List ℕ). Fits S T t d R) (x.2 Q y.0 (but_two S T t local Q (λ p n. y.1 p))) (y.1 d)))
  means_once (doubtful d P) (doubtful e Q) x y =
      let u : P ≡ Q = y.2 P x.0 x.1 in
      let b = two_but S T t P x.1 in
      let m = but_miss S T t b.0 d P b.1 x.3 in
      let n = but_miss S T t b.0 e P b.1 (λ f. y.3 (subst (λ (R : List ℕ). Fits S T t e R) u f)) in
      ap₂ doubtful (m ∙ sym n) u
  means_once (doubtful d P) lost x y = absurd (y P x.0 x.1)
  means_once (doubtful d P) clashing x y = absurd (y.6 (x.2 y.0 y.2 y.4 ∙ sym (x.2 y.1 y.3 y.5)))
  means_once lost (whole Q) x y = absurd (x Q y.0 (but_two S T t local Q (λ p n. y.1 p)))
  means_once lost (doubtful e Q) x y = absurd (x Q y.0 y.1)
  means_once lost lost x y = refl
  means_once lost clashing x y = absurd (x y.0 y.2 y.4)
  means_once clashing (whole P) y x = absurd (y.6 (one_for_all P y.0 x.0 y.2 x.1 y.4 ∙ sym (one_for_all P y.1 x.0 y.3 x.1 y.5)))
  means_once clashing (doubtful d P) y x = absurd (y.6 (x.2 y.0 y.2 y.4 ∙ sym (x.2 y.1 y.3 y.5)))
  means_once clashing lost y x = absurd (x y.0 y.2 y.4)
  means_once clashing clashing x y = refl

-- So what is worked out is what the document says.
pub judge_exact : (s : ℕ) (S : Scheme) → Lawful s S → JudgeExact s S
judge_exact s S L T t σ w = (λ e. subst (λ (u : Verdict). Means s S T t u) e (judge_means s S L T t σ), λ m. means_once s S L T t (judge S T t) w (judge_means s S L T t σ) m)
