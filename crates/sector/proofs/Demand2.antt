-- Demand 2. Assumes nothing.
use mathlib.Core.Path.{◌≡◌, refl, sym, ap, subst, ◌∙◌}
use mathlib.Core.Logic.{◌↔◌}
use mathlib.Core.Bool.{true, false, ◌||◌}
use mathlib.Core.List.{List}
use mathlib.Core.Option.{Option, none, some}
use Prim.Native.Nat.{ℕ}
use native.Mathlib.Omega.{arith}
use lib.Dec.{eqb}
use lib.ListN.{length}
use Rattle.block.specs.Bytes.{Plain}
use Rattle.mode.specs.Sealing.{Key, Triple, tweak, sealed}
use Rattle.mode.specs.Scheme.{Place, local, tag, remote, on, wide, Sector, is_key, is_size, Scheme, Lawful, dcm, scheme}
use Rattle.mode.proofs.Laws.{sound}
use Rattle.answers.specs.Rules.{is_zero_hash, first_of, open_rules}
use Rattle.answers.proofs.Passing.{pair_pass, parts_pass, open_pass}
use Rattle.verdict.specs.Judging.{verdict_outcome}
use Rattle.verdict.specs.Verdict.{Fits, Verdict, whole, doubtful, lost, clashing, Means, judge, Side, local_side, remote_side, place_of, other_side, side_of, opened}
use Rattle.verdict.specs.Verdict as W
use Rattle.verdict.proofs.JudgeExact.{FitsBut, but_local, but_tag, but_remote, one_for_a_pair, judge_exact}
use Rattle.verdict.proofs.Numbers.{outcome_one}
use Rattle.verdict.proofs.OpenExact.{open_plain, opened_none, open_exact}
use Rattle.sector.specs.Calls.{open_outcome, seal_call, judge_call, open_call, rebuild_call, combine_call}
use Rattle.sector.specs.Demand2.{side_number, SealsTo, Judges, Opens, Rebuilds, Demand2Whole, SizeBounds}
use Rattle.sector.proofs.Opening.{outcome_some, outcome_none}
use Rattle.answers.proofs.Rules.{settle_none}
use Rattle.sector.proofs.Public.{seal_passes, judge_passes, combine_passes}

-- ---- what an outcome of opening says

module _ (f : List ℕ → List ℕ) (out : List ℕ) where
  some_says : (r : Option (List ℕ)) (y : List ℕ) → open_outcome f r out ≡ (0, y) → (P : List ℕ) × (r ≡ some P) × (y ≡ f P)
  some_says none y e = absurd (let z : ◌≡◌ {A = ℕ} 5 0 = ap (λ (u : ℕ × List ℕ). u.0) e in omega arith)
  some_says (some P) y e = (P, refl, sym (ap (λ (u : ℕ × List ℕ). u.1) e))

  none_says : (r : Option (List ℕ)) → open_outcome f r out ≡ (5, out) → r ≡ none
  none_says none e = refl
  none_says (some P) e = absurd (let z : ◌≡◌ {A = ℕ} 0 5 = ap (λ (u : ℕ × List ℕ). u.0) e in omega arith)

side_back : (d : Side) → side_of (side_number d) ≡ d
side_back local_side = refl
side_back remote_side = refl

side_right : (d : Side) → (eqb (side_number d) 0 || eqb (side_number d) 1) ≡ true
side_right local_side = refl
side_right remote_side = refl

module _ (k : Key) (volume s : ℕ) (ek : is_key k ≡ true) (es : is_size s ≡ true) where
  abbrev S : Scheme
  S = scheme k

  lawful : Lawful s S
  lawful = sound.lawful k s ek es

  -- ---- two places

  -- two places are all but one
  pair : (T : ℕ) (t : Triple) (p q : Place) → (p ≡ q → ⊥) → (d : Place) × ((P : List ℕ) → Fits S T t p P → Fits S T t q P → FitsBut S T t d P)
  pair T t local local n = absurd (n refl)
  pair T t local tag n = (remote, λ P x y. but_remote S T t P x y)
  pair T t local remote n = (tag, λ P x y. but_tag S T t P x y)
  pair T t tag local n = (remote, λ P x y. but_remote S T t P y x)
  pair T t tag tag n = absurd (n refl)
  pair T t tag remote n = (local, λ P x y. but_local S T t P x y)
  pair T t remote local n = (tag, λ P x y. but_tag S T t P y x)
  pair T t remote tag n = (local, λ P x y. but_local S T t P y x)
  pair T t remote remote n = absurd (n refl)

  one_for_two : (T : ℕ) (t : Triple) (p q : Place) → (p ≡ q → ⊥) → (P Q : List ℕ) → Plain s P → Plain s Q
      → Fits S T t p P → Fits S T t q P → Fits S T t p Q → Fits S T t q Q → P ≡ Q
  one_for_two T t p q n P Q hp hq a b c d =
      let u = pair T t p q n in one_for_a_pair s S lawful T t u.0 P Q hp hq (u.1 P a b) (u.1 Q c d)

  -- ---- seal

  the_mode : (address : ℕ) (P : List ℕ) → (scheme k).sealed (tweak volume address) P ≡ sealed k volume address P
  unfolding sealed scheme dcm
  the_mode address P = refl

  seals : is_zero_hash k ≡ false → (address : ℕ) (P : List ℕ) (out : Triple) → Plain s P → ((p : Place) → length (on out p) ≡ wide s p) → seal_call k volume address P out ≡ (0, sealed k volume address P)
  seals eh address P out plain long =
      let e = plain.long in
      seal_passes k volume address P out
      (parts_pass k (length P) (length out.local) (length out.remote) (length out.tag) ek eh (ap is_size e ∙ es) (long local ∙ sym e) (long remote ∙ sym e) (long tag))

  -- ---- judge

  module _ (eh : is_zero_hash k ≡ false) (address : ℕ) (t : Triple) (out : List ℕ) (σ : Sector s t) (size : length out ≡ s) where
    judge_is : judge_call k volume address t out ≡ verdict_outcome (judge S (tweak volume address) t) out
    judge_is =
        let e = (σ.places local).long in
        judge_passes k volume address t out
        (parts_pass k (length t.local) (length t.remote) (length out) (length t.tag) ek eh (ap is_size e ∙ es) ((σ.places remote).long ∙ sym e) (size ∙ sym e) (σ.places tag).long)

    judged : (w : Verdict) → (judge_call k volume address t out ≡ verdict_outcome w out) ↔ Means s S (tweak volume address) t w
    judged w =
        let exact = judge_exact s S lawful (tweak volume address) t σ w in
        (λ e. exact.0 (outcome_one (judge S (tweak volume address) t) w out (sym judge_is ∙ e)), λ m. judge_is ∙ ap (λ (v : Verdict). verdict_outcome v out) (exact.1 m))

    judges : Judges k volume s address t out
    judges = record { at_whole = λ P. judged (whole P); at_doubtful = λ d P. judged (doubtful d P); at_lost = judged lost; at_clashing = judged clashing }

  -- ---- open and rebuild

  module _ (eh : is_zero_hash k ≡ false) (address : ℕ) (d : Side) (x g out : List ℕ) (plain_x : Plain s x) (plain_g : Plain 16 g) (size : length out ≡ s) where
    abbrev result : Option (List ℕ)
    result = opened S (tweak volume address) d g x

    abbrev Sealed : List ℕ → Type 0
    Sealed P = SealsTo k volume s address d x g P

    fits_of : (P : List ℕ) → Sealed P → W.FitsBoth S (tweak volume address) d g x P
    unfolding sealed scheme dcm
    fits_of P h = record { fits_tag = h.its_tag; fits_side = h.sector }

    of_fits : (P : List ℕ) → Plain s P → W.FitsBoth S (tweak volume address) d g x P → Sealed P
    unfolding sealed scheme dcm
    of_fits P p o = record { size = p; sector = o.fits_side; its_tag = o.fits_tag }

    found : (P : List ℕ) → (result ≡ some P) ↔ Sealed P
    found P =
        let e = open_exact s S lawful (tweak volume address) d g x plain_g plain_x P in
        (λ r. of_fits P (e.0 r).0 (e.0 r).1, λ h. e.1 (h.size, fits_of P h))

    none_found : (result ≡ none) ↔ ((P : List ℕ) → Sealed P → ⊥)
    none_found = (
      λ e P h. let r = (found P).1 h in let z : ◌≡◌ {A = ℕ} 0 1 = cc in omega arith,
      λ never. opened_none s S lawful (tweak volume address) d g x (open_plain s S lawful (tweak volume address) d g x plain_g plain_x) (λ P p o. never P (of_fits P p o)),
    )

    -- a call whose answer is the outcome under f
    module _ (f : List ℕ → List ℕ) {a : ℕ × List ℕ} (is : a ≡ open_outcome f result out) where
      writes : (y : List ℕ) → (a ≡ (0, y)) ↔ ((P : List ℕ) × Sealed P × (y ≡ f P))
      writes y =
          (λ e. let u = some_says f out result y (sym is ∙ e) in (u.0, (found u.0).0 u.1, u.2), λ u. is ∙ outcome_some f out ((found u.0).1 u.1) u.2)

      refuses : (a ≡ (5, out)) ↔ ((P : List ℕ) → Sealed P → ⊥)
      refuses = (λ e. none_found.0 (none_says f out result (sym is ∙ e)), λ never. is ∙ outcome_none f out (none_found.1 never))

    passes : first_of (open_rules k (length x) (length out) (length g) (side_number d)) ≡ none
    passes =
        let e = plain_x.long in open_pass k (length x) (length out) (length g) (side_number d) ek eh (ap is_size e ∙ es) (size ∙ sym e) plain_g.long (side_right d)

    abbrev itself : List ℕ → List ℕ
    itself P = P

    open_is : open_call k volume address (side_number d) x g out ≡ open_outcome itself result out
    unfolding open_call
    open_is =
        settle_none _ out passes
        ∙ ap (λ (c : Side). open_outcome itself (opened S (tweak volume address) c g x) out) (side_back d)

    opens : Opens k volume s address d x g out
    opens = record {
      gives =
          λ P.
          let w = writes itself open_is P in
          (λ e. let u = w.0 e in subst Sealed (sym u.2) u.1, λ h. w.1 (P, h, refl));
      refuses = refuses itself open_is;
    }

    abbrev opposite : List ℕ → List ℕ
    opposite P = on (sealed k volume address P) (place_of (other_side d))

    rebuild_is : rebuild_call k volume address (side_number d) x g out ≡ open_outcome opposite result out
    unfolding rebuild_call
    rebuild_is =
        settle_none _ out passes
        ∙ ap (λ (c : Side). open_outcome (λ P. on (sealed k volume address P) (place_of (other_side c))) (opened S (tweak volume address) c g x) out) (side_back d)

    rebuilds : Rebuilds k volume s address d x g out
    rebuilds = record { writes = writes opposite rebuild_is; refuses = refuses opposite rebuild_is }

  -- ---- a sealed sector

  module _ (address : ℕ) (P out : List ℕ) (plain : Plain s P) (size : length out ≡ s) where
    abbrev t : Triple
    t = sealed k volume address P

    long : (p : Place) → Plain (wide s p) (on t p)
    unfolding sealed scheme dcm
    long p = (lawful.shape (tweak volume address) P plain).places p

    combines_sealed : combine_call t.local t.remote out ≡ (0, P)
    unfolding sealed scheme dcm
    combines_sealed =
        let e = (long local).long in
        combine_passes t.local t.remote out
        (pair_pass (length t.local) (length t.remote) (length out) (ap is_size e ∙ es) ((long remote).long ∙ sym e) (size ∙ sym e))
        ∙ ap (λ (Q : List ℕ). (0, Q)) (lawful.sum (tweak volume address) P plain)

    -- under a key that is accepted
    module _ (eh : is_zero_hash k ≡ false) where
      side_plain : (d : Side) → Plain s (on t (place_of d))
      side_plain local_side = long local
      side_plain remote_side = long remote

      judges_sealed : judge_call k volume address t out ≡ (0, P)
      unfolding sealed scheme dcm
      judges_sealed = ((judges eh address t out (record { places = long }) size).at_whole P).1 (plain, λ p. refl)

      itself_sealed : (d : Side) → SealsTo k volume s address d (on t (place_of d)) t.tag P
      itself_sealed d = record { size = plain; sector = refl; its_tag = refl }

      opens_sealed : (d : Side) → open_call k volume address (side_number d) (on t (place_of d)) t.tag out ≡ (0, P)
      opens_sealed d = ((opens eh address d (on t (place_of d)) t.tag out (side_plain d) (long tag) size).gives P).1 (itself_sealed d)

      rebuilds_sealed : (d : Side) → rebuild_call k volume address (side_number d) (on t (place_of d)) t.tag out ≡ (0, on t (place_of (other_side d)))
      rebuilds_sealed d =
          ((rebuilds eh address d (on t (place_of d)) t.tag out (side_plain d) (long tag) size).writes (on t (place_of (other_side d)))).1 (P, itself_sealed d, refl)

pub demand_2 : Demand2Whole
demand_2 k volume s ek es = (
  record {
    the_mode = the_mode k volume s ek es;
    combines_sealed = combines_sealed k volume s ek es;
    judging = judge_exact s (scheme k) (lawful k volume s ek es);
    opening = open_exact s (scheme k) (lawful k volume s ek es);
    one_for_two = one_for_two k volume s ek es;
  },
  λ eh. record {
    seals = seals k volume s ek es eh;
    judges = judges k volume s ek es eh;
    opens = opens k volume s ek es eh;
    rebuilds = rebuilds k volume s ek es eh;
    judges_sealed = λ address P out p e. judges_sealed k volume s ek es address P out p e eh;
    opens_sealed = λ address d P out p e. opens_sealed k volume s ek es address P out p e eh d;
    rebuilds_sealed = λ address d P out p e. rebuilds_sealed k volume s ek es address P out p e eh d;
  },
)

pub size_bounds : SizeBounds
unfolding is_size
size_bounds = record { size_15 = refl; size_16 = refl; size_4096 = refl; size_4112 = refl }
