-- A cut leaves exactly what document 01's rule allows. Assumes nothing but the laws of the sealing.
use mathlib.Core.Path.{◌≡◌, refl, sym, ◌∙◌, ap, subst}
use mathlib.Core.Logic.{◌↔◌, ◌⊎◌, inl, inr, ⊎_elim}
use mathlib.Core.Bool.{Bool, true, false, cond}
use mathlib.Core.List.Memᴰ
use mathlib.Core.List.{List, [], ◌∷◌, Memᴰ}
use mathlib.Core.Option.{none}
use Prim.Native.Nat.{ℕ, ◌*◌}
use native.Mathlib.Decide.{ℕ_discrete}
use lib.ListN.{length}
use Rattle.block.specs.Bytes.{Plain, part}
use Rattle.block.proofs.Lists.{false-true}
use Rattle.block.proofs.Parts.{parts_all}
use Rattle.mode.specs.Sealing.{Triple}
use Rattle.mode.specs.Scheme.{Place, local, tag, remote, on, wide, Sector}
use Rattle.verdict.specs.Verdict.{fits}
use Rattle.verdict.proofs.JudgeExact.{same_place, fits-Fits, Fits-fits}
use Rattle.history.specs.Machine.{Told, told_finished, told_cut}
use Rattle.history.proofs.Options.{none_some}
use Rattle.answers.specs.Rules.{Args, Volume}
use Rattle.history.specs.Volume.{store, sector_of, Call, writes, sector, sealing, refusal, mirror}
use Rattle.history.specs.Power.{Cut, cut, CutOf, torn, Images, LentBytes, leaves_call}
use Rattle.history.specs.HistoryFrom.{AnyBytes}
use Rattle.history.specs.Cuts.{CutLeaves, CutExact}
use Rattle.history.proofs.Demand3.{mirror_sound}
use Rattle.history.proofs.Refusals.{accepted_passed, accepted_images}
use Rattle.history.proofs.Images.{Left, left, sector_images, leaves_refused}
use Rattle.history.proofs.Sector.{on_store, on_store_other, store_all}

-- ---- places

-- whether a place is among some
member : (p : Place) (ps : List Place) → Memᴰ p ps ⊎ (Memᴰ p ps → ⊥)
member p [] = inr Memᴰ.not-nil
member p (q ∷ ps) = go (same_place p q) (member p ps)
  where
    go : (p ≡ q) ⊎ (p ≡ q → ⊥) → Memᴰ p ps ⊎ (Memᴰ p ps → ⊥) → Memᴰ p (q ∷ ps) ⊎ (Memᴰ p (q ∷ ps) → ⊥)
    go (inl e) r = inl (Memᴰ.head e)
    go (inr d) (inl m) = inl (Memᴰ.tail m)
    go (inr d) (inr n) = inr (λ m. ⊎_elim d n (Memᴰ.cases_cons m))

abbrev decided : {A B : Type 0} → A ⊎ B → Bool
decided (inl x) = true
decided (inr y) = false

module _ (b : Place → List ℕ) where
  stored_out : (ps : List Place) (t : Triple) (p : Place) → (Memᴰ p ps → ⊥) → on (store_all b ps t) p ≡ on t p
  stored_out [] t p n = refl
  stored_out (q ∷ ps) t p n =
      stored_out ps (store q (b q) t) p (λ m. n (Memᴰ.tail m)) ∙ on_store_other q p (b q) t (λ e. n (Memᴰ.head e))

  stored_in : (ps : List Place) (t : Triple) (p : Place) → Memᴰ p ps → on (store_all b ps t) p ≡ b p
  stored_in [] t p m = absurd (Memᴰ.not-nil m)
  stored_in (q ∷ ps) t p m = go (member p ps) (Memᴰ.cases_cons m) (stored_in ps (store q (b q) t) p)
    where
      go : Memᴰ p ps ⊎ (Memᴰ p ps → ⊥) → (p ≡ q) ⊎ Memᴰ p ps
          → (Memᴰ p ps → on (store_all b ps (store q (b q) t)) p ≡ b p) → on (store_all b ps (store q (b q) t)) p ≡ b p
      go (inl k) r below = below k
      go (inr n) (inl e) below =
          stored_out ps (store q (b q) t) p n
          ∙ ap (on (store q (b q) t)) e ∙ on_store q (b q) t ∙ ap b (sym e)
      go (inr n) (inr k) below = absurd (n k)

-- the places of a sector are parts of the images
on_sector_lem : (s j : ℕ) (v : Triple) (p : Place) → on (sector_of s j v) p ≡ part (wide s p) j (on v p)
on_sector_lem s j v local = refl
on_sector_lem s j v tag = refl
on_sector_lem s j v remote = refl

triple_all : (v w : Triple) → ((p : Place) → on v p ≡ on w p) → v ≡ w
triple_all v w e = λ i. record { local = e local i; tag = e tag i; remote = e remote i }

-- images of n sectors with the same sectors are the same
images_same : (s n : ℕ) (v w : Triple) → ((p : Place) → length (on v p) ≡ n * wide s p) → ((p : Place) → length (on w p) ≡ n * wide s p)
    → ((j : ℕ) → (p : Place) → on (sector_of s j v) p ≡ on (sector_of s j w) p) → v ≡ w
images_same s n v w I J e =
    triple_all v w
    (λ p. parts_all (wide s p) n (on v p) (on w p) (I p) (J p) (λ j l. sym (on_sector_lem s j v p) ∙ e j p ∙ on_sector_lem s j w p))

-- ---- an accepted call

module _ (v : Triple) (b : AnyBytes v) (a : Args) (c : Call) (lent : LentBytes c) (e : refusal mirror v a c ≡ none) where
  -- the places that it writes, what it writes there, and what it found there
  abbrev places : List Place
  places = (writes a.volume.size (sealing mirror a) a.number (sector v a) c).places

  abbrev written : Triple
  written = (sealing mirror a).sealed a.number (writes a.volume.size (sealing mirror a) a.number (sector v a) c).plain

  before : Images a.volume.size a.volume.count v
  before = accepted_images mirror v a c b e

  here : Sector a.volume.size (sector v a)
  here = sector_images a.volume.size a.volume.count a.number (accepted_passed mirror v a c e).number v before

  after_cut : (k : Cut) → CutOf a.volume.size (cut k) → Left mirror v a c (cut k) (leaves_call mirror v a c (cut k))
  after_cut k z = left mirror mirror_sound v b a c (cut k) lent z e

  -- ---- the theorem's cuts keep the rule

  module _ (k : Cut) (z : CutOf a.volume.size (cut k)) where
    begun : Place → Bool
    begun p = decided (member p places)

    mine_in : (p : Place) → Memᴰ p places → on (sector (leaves_call mirror v a c (cut k)) a) p ≡ torn k written (sector v a) p
    mine_in p m = ap (λ (t : Triple). on t p) (after_cut k z).mine ∙ stored_in (torn k written (sector v a)) places (sector v a) p m

    mine_out : (p : Place) → (Memᴰ p places → ⊥) → on (sector (leaves_call mirror v a c (cut k)) a) p ≡ on (sector v a) p
    mine_out p n = ap (λ (t : Triple). on t p) (after_cut k z).mine ∙ stored_out (torn k written (sector v a)) places (sector v a) p n

    begun_in : (p : Place) → begun p ≡ true → Memᴰ p places
    unfolding begun
    begun_in p h = go (member p places) h
      where
        go : (r : Memᴰ p places ⊎ (Memᴰ p places → ⊥)) → decided r ≡ true → Memᴰ p places
        go (inl m) y = m
        go (inr n) y = false-true y

    begun_out : (p : Place) → begun p ≡ false → Memᴰ p places → ⊥
    unfolding begun
    begun_out p h = go (member p places) h
      where
        go : (r : Memᴰ p places ⊎ (Memᴰ p places → ⊥)) → decided r ≡ false → Memᴰ p places → ⊥
        go (inl m) y = false-true (sym y)
        go (inr n) y = n

    tag_cases : (x : Bool) (new old : List ℕ) (g : List ℕ) → g ≡ cond x new old → (g ≡ old) ⊎ (g ≡ new)
    tag_cases true new old g h = inr h
    tag_cases false new old g h = inl h

    keeps_rule : CutLeaves v a c (leaves_call mirror v a c (cut k))
    keeps_rule = record {
      begun = begun;
      writes_begun = begun_in;
      any_local = λ h. subst (Plain a.volume.size) (sym (mine_in local (begun_in local h))) z.0;
      any_remote = λ h. subst (Plain a.volume.size) (sym (mine_in remote (begun_in remote h))) z.1;
      old_or_new = λ h. tag_cases k.new_tag written.tag (sector v a).tag _ (mine_in tag (begun_in tag h));
      not_begun = λ p h. mine_out p (begun_out p h);
      others = (after_cut k z).others;
      lengths = λ p. ((after_cut k z).images.images p).long ∙ sym (before.images p).long;
    }

  -- ---- what keeps the rule is one of the theorem's cuts

  module _ (w : Triple) (r : CutLeaves v a c w) where
    any_side : (p : Place) → wide a.volume.size p ≡ a.volume.size → (r.begun p ≡ true → Plain a.volume.size (on (sector w a) p)) → Plain a.volume.size (on (sector w a) p)
    any_side p d h = go (r.begun p) refl
      where
        go : (x : Bool) → r.begun p ≡ x → Plain a.volume.size (on (sector w a) p)
        go true y = h y
        go false y = subst (Plain a.volume.size) (sym (r.not_begun p y)) (subst (λ (m : ℕ). Plain m (on (sector v a) p)) d (here.places p))

    tag_is : (x : Bool) × ((sector w a).tag ≡ cond x written.tag (sector v a).tag)
    tag_is = go (r.begun tag) refl
      where
        go : (x : Bool) → r.begun tag ≡ x → (x : Bool) × ((sector w a).tag ≡ cond x written.tag (sector v a).tag)
        go true y = ⊎_elim (λ h. (false, h)) (λ h. (true, h)) (r.old_or_new y)
        go false y = (false, r.not_begun tag y)

    the_cut : Cut
    the_cut = record { in_local = (sector w a).local; in_remote = (sector w a).remote; new_tag = tag_is.0 }

    is_cut : CutOf a.volume.size (cut the_cut)
    unfolding the_cut
    is_cut = (any_side local refl r.any_local, any_side remote refl r.any_remote)

    torn_is : (p : Place) → torn the_cut written (sector v a) p ≡ on (sector w a) p
    unfolding the_cut
    torn_is local = refl
    torn_is tag = sym tag_is.1
    torn_is remote = refl

    mine : (p : Place) → on (sector (leaves_call mirror v a c (cut the_cut)) a) p ≡ on (sector w a) p
    mine p = go (member p places)
      where
        go : Memᴰ p places ⊎ (Memᴰ p places → ⊥) → on (sector (leaves_call mirror v a c (cut the_cut)) a) p ≡ on (sector w a) p
        go (inl m) = mine_in the_cut is_cut p m ∙ torn_is p
        go (inr n) = mine_out the_cut is_cut p n ∙ sym (as_before (r.begun p) refl)
          where
            as_before : (x : Bool) → r.begun p ≡ x → on (sector w a) p ≡ on (sector v a) p
            as_before true y = absurd (n (r.writes_begun p y))
            as_before false y = r.not_begun p y

    all_sectors : (j : ℕ) (p : Place) → on (sector_of a.volume.size j (leaves_call mirror v a c (cut the_cut))) p ≡ on (sector_of a.volume.size j w) p
    all_sectors j p = go (ℕ_discrete j a.number)
      where
        go : Dec (j ≡ a.number) → on (sector_of a.volume.size j (leaves_call mirror v a c (cut the_cut))) p ≡ on (sector_of a.volume.size j w) p
        go (yes h) =
            subst (λ (i : ℕ). on (sector_of a.volume.size i (leaves_call mirror v a c (cut the_cut))) p ≡ on (sector_of a.volume.size i w) p) (sym h) (mine p)
        go (no n) = ap (λ (t : Triple). on t p) ((after_cut the_cut is_cut).others j n ∙ sym (r.others j n))

    is_left : leaves_call mirror v a c (cut the_cut) ≡ w
    is_left =
        images_same a.volume.size a.volume.count (leaves_call mirror v a c (cut the_cut)) w
        (λ p. ((after_cut the_cut is_cut).images.images p).long) (λ p. r.lengths p ∙ (before.images p).long) all_sectors

  exactly : (w : Triple) → ((k : Cut) × CutOf a.volume.size (cut k) × (leaves_call mirror v a c (cut k) ≡ w)) ↔ CutLeaves v a c w
  exactly w = (λ (k, z, h). subst (CutLeaves v a c) h (keeps_rule k z), λ r. (the_cut w r, is_cut w r, is_left w r))

-- ---- in a list

told-fits : (x : Bool) → told_cut x ≡ told_cut true → x ≡ true
told-fits x e = ap is_new e
  where
    is_new : Told → Bool
    is_new told_finished = false
    is_new (told_cut b) = b

pub cut_exact : CutExact
cut_exact = record {
  refused = leaves_refused mirror;
  accepted = λ vol v b a t c lent e w.
      let x = exactly v b a c lent e w in (
        λ (k, m, h). x.0 (k, subst (λ (u : Volume). CutOf u.size (cut k)) (sym t) m.2, h),
        λ r. let (k, z, h) = x.1 r in (k, (λ n. t, lent, subst (λ (u : Volume). CutOf u.size (cut k)) t z), h),
      );
  tag_told_is = λ S i t P k. (
    λ h. fits-Fits S i t tag P (told-fits (fits S i t tag P) h),
    λ h. ap told_cut (Fits-fits S i t tag P h),
  );
  finished_allowed = λ vol v a c t l. (λ e. t, l, tt);
  refused_allowed = λ vol v a c k l e. (λ n. absurd (none_some (sym n ∙ e)), l, tt);
  damage_allowed = λ vol v p i b lt h. (lt, h);
}
