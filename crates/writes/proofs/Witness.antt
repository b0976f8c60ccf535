-- A list in which power goes in each of the calls of a write. Assumes nothing but the laws of the sealing.
use mathlib.Core.Path.{◌≡◌, refl, sym, ap, subst, ◌∙◌}
use mathlib.Core.List.{List, [], ◌∷◌, ◌++◌, append_assoc}
use mathlib.Core.Option.{Option, none, some}
use Prim.Native.Nat.{ℕ, ◌<◌}
use lib.ListN.{length, replicate, length-replicate}
use borrow.Author.Tests.{eq-eqb}
use Rattle.block.specs.Bytes.{Plain}
use Rattle.block.proofs.Lists.{plain_zeros}
use Rattle.mode.specs.Sealing.{Triple}
use Rattle.mode.specs.Scheme.{Place, local, tag, remote, on, Scheme, Lawful}
use Rattle.verdict.specs.Verdict.{whole, doubtful, Means}
use Rattle.answers.specs.Rules.{Args, Volume, length_rules, map_words}
use Rattle.answers.proofs.Rules.{first_none}
use Rattle.answers.proofs.Passing.{Common, sector_pass}
use Rattle.history.specs.Volume.{Call, blank, first, second, third, mend, read, store, outcome, mirror}
use Rattle.history.specs.Machine.{told_finished, called, kept, State, start, after_damage, machine}
use Rattle.history.specs.Power.{Cut, cut, damage, Images, CutOf, is_refused}
use Rattle.history.specs.History.{at, own}
use Rattle.history.specs.HistoryFrom.{AnyBytes}
use Rattle.history.specs.Meaning.{Is, sealed_all}
use Rattle.history.specs.Witness.{AcceptedVolume}
use Rattle.history.proofs.Demand3.{mirror_sound}
use Rattle.history.proofs.Events.{put_same}
use Rattle.history.proofs.Images.{any_bytes, sector-write, images_all, sector_all}
use Rattle.history.proofs.Meaning.{calls_mean}
use Rattle.history.proofs.Refusals.{passes_early}
use Rattle.history.proofs.Sector.{AllPlain}
use Rattle.history.proofs.Witness.{images_shape}
use Rattle.suspects.specs.Marks.{is_finished, first_rules, map_outcome}
use Rattle.suspects.specs.History.{Lent, lent_refusal, hold_lent}
use Rattle.suspects.proofs.Marking.{found_finished, nine, right_words}
use Rattle.suspects.proofs.Calls.{map_calls}
use Rattle.writes.specs.Write.{stages, following, calls_leave}
use Rattle.writes.specs.Meaning.{calls_answer, WritePasses}
use Rattle.writes.specs.History.{in_call, after_call, WriteFate, completed, cut_at, LaptopEvent, single, write, write_calls, finished_call, call_events, WriteFateOf, laptop_leaves, LaptopAllowed, AllLaptopAllowed, run_laptop, hold_laptop}
use Rattle.writes.specs.Witness.{Doubt, to_sector, CutIn, Met, EveryCut}
use Rattle.writes.proofs.Accepted.{finished_accepted}
use Rattle.writes.proofs.Following.{after_doubt}
use Rattle.writes.proofs.Meaning.{read_by, number_by, whole_runs, doubtful_runs}
use Rattle.writes.proofs.History.{after_all, after_all_of, AllFinished, calls_lead, power_in, finished_new, laptop_allowed_both, laptop_run_both, laptop_hold_both, laptop_history}

-- ---- lists one behind the other

module _ (vol : Volume) (i : ℕ) (P : List ℕ) (k : Cut) where
  -- an event met in one of two lists is met in both together
  met_left : (xs ys : List LaptopEvent) (v : Triple) (h : State) (c : Call) → Met vol v h xs i P k c → Met vol v h (xs ++ ys) i P k c
  met_left xs ys v h c m = record {
    before = m.before;
    event = m.event;
    behind = m.behind ++ ys;
    splits = ap (λ (l : List LaptopEvent). l ++ ys) m.splits ∙ append_assoc m.before (m.event ∷ m.behind) ys;
    cut_in = m.cut_in;
  }

  met_right : (xs ys : List LaptopEvent) (v : Triple) (h : State) (c : Call) → Met vol (run_laptop vol v xs) (hold_laptop vol v h xs) ys i P k c → Met vol v h (xs ++ ys) i P k c
  met_right xs ys v h c m = record {
    before = xs ++ m.before;
    event = m.event;
    behind = m.behind;
    splits = ap (λ (l : List LaptopEvent). xs ++ l) m.splits ∙ sym (append_assoc xs m.before (m.event ∷ m.behind));
    cut_in =
        subst (λ (g : State). CutIn vol (run_laptop vol v (xs ++ m.before)) g m.event i P k c) (sym (laptop_hold_both vol xs m.before v h))
        (subst (λ (u : Triple). CutIn vol u (hold_laptop vol (run_laptop vol v xs) (hold_laptop vol v h xs) m.before) m.event i P k c) (sym (laptop_run_both vol xs m.before v)) m.cut_in);
  }

  -- ---- power goes in the call c, after the calls xs have finished

  abbrev a : Args
  a = to_sector vol i

  -- the call is not refused where all of them finish
  not_refused : (xs : List Call) (c : Call) (ys : List Call) (d : Triple × List ℕ) → AllFinished (calls_answer a (xs ++ (c ∷ ys)) d)
      → let e = calls_leave mirror a xs d in lent_refusal e.0 a c e.1 ≡ none
  not_refused [] c ys d f = finished_accepted d.0 a c d.1 f.0
  not_refused (x ∷ xs) c ys d f = not_refused xs c ys (map_outcome mirror d.0 a x d.1).1 f.1

  write_cut_in : (v : Triple) (h : State) (d : Option Place) → h i ≡ kept (replicate vol.size 0) d → (m : List ℕ) (xs : List Call) (c : Call) (ys : List Call) → write_calls v a P m ≡ xs ++ (c ∷ ys)
      → AllFinished (calls_answer a (xs ++ (c ∷ ys)) (v, m)) → CutIn vol v h (write a P m (cut_at (after_all xs (in_call k)))) i P k c
  write_cut_in v h d held m xs c ys e f = record {
    map = m;
    power = after_all xs (in_call k);
    is_write = refl;
    doubt = d;
    kept_is = held;
    earlier = call_events a completed xs (v, m);
    last = (calls_leave mirror a xs (v, m)).1;
    ends = power_in vol v a P m k xs c ys e;
    accepted = ap (λ (u : Triple). lent_refusal u a c (calls_leave mirror a xs (v, m)).1) (calls_lead vol a xs (v, m)) ∙ not_refused xs c ys (v, m) f;
  }

-- each call of a list has the property
abbrev Every : (Call → Type 0) → List Call → Type 0
Every T [] = Unit {0}
Every T (c ∷ cs) = T c × Every T cs

-- ---- the list

module _ (vol : Volume) (accepted : AcceptedVolume vol) (i : ℕ) (lt : i < vol.count) (P : List ℕ) (plain : Plain vol.size P) (k : Cut) (cuts : CutOf vol.size (cut k)) where
  abbrev here : Args
  here = to_sector vol i

  -- a map of as many words as n needs
  abbrev m : List ℕ
  m = replicate (map_words vol.count) 0

  abbrev zeros : List ℕ
  zeros = replicate vol.size 0

  abbrev S : Scheme
  S = own mirror vol

  lawful : Lawful vol.size S
  lawful = (mirror_sound vol.number).lawful vol.key vol.size accepted.key accepted.size

  module _ (v : Triple) (I : Images vol.size vol.count v) where
    checked : Common v vol
    checked = record { key = accepted.key; hash = accepted.hash; size = accepted.size; shape = images_shape vol.size vol.count v accepted.least accepted.most I }

    passes : WritePasses v here P m
    passes =
        first_none (length_rules (length P) vol.size) (first_rules v here m)
        (right_words v vol m (nine here) (length-replicate (map_words vol.count) 0) ∙ sector_pass v here checked lt)
        ∙ simp (eq-eqb (length P) vol.size plain.long)

    -- ---- blank

    abbrev blanked : Triple
    blanked = laptop_leaves vol v (single (finished_call here blank m))

    blanks : outcome mirror v here blank ≡ (0, sealed_all v here zeros)
    blanks = (calls_mean v (any_bytes vol.size vol.count v I) here).blank_writes (passes_early v here blank (record { common = checked; number = lt; lengths = refl }))

    blank-leaves : blanked ≡ sealed_all v here zeros
    blank-leaves =
        ap (λ (r : ℕ × (Triple × List ℕ)). r.1.0) (map_calls.as_without v here blank m (length-replicate (map_words vol.count) 0))
        ∙ ap (λ (r : ℕ × Triple). r.1) blanks

    all_plain : AllPlain vol.size (on (S.sealed i zeros)) (local ∷ tag ∷ remote ∷ [])
    all_plain = let L = (lawful.shape i zeros (plain_zeros vol.size)).places in (L local, (L tag, (L remote, tt)))

    blank_images : Images vol.size vol.count blanked
    blank_images = subst (Images vol.size vol.count) (sym blank-leaves) (images_all vol.size vol.count i lt (on (S.sealed i zeros)) (local ∷ tag ∷ remote ∷ []) all_plain v I)

    blank-sector : at vol blanked i ≡ S.sealed i zeros
    blank-sector = ap (λ (u : Triple). at vol u i) blank-leaves ∙ sector_all vol.size vol.count i lt (on (S.sealed i zeros)) (local ∷ tag ∷ remote ∷ []) all_plain v I

    blank_whole : Is blanked here (whole zeros)
    blank_whole = (plain_zeros vol.size, λ p. ap (λ (t : Triple). on t p) blank-sector)

    blank_number : (map_outcome mirror v here blank m).0 ≡ 0
    blank_number =
        ap (λ (r : ℕ × (Triple × List ℕ)). r.0) (map_calls.as_without v here blank m (length-replicate (map_words vol.count) 0))
        ∙ ap (λ (r : ℕ × Triple). r.0) blanks

    blank_holds : (h : State) → hold_laptop vol v h (single (finished_call here blank m) ∷ []) i ≡ kept zeros none
    unfolding is_finished
    blank_holds h =
        ap (λ (o : Option ℕ). machine h (called here blank (is_refused o) told_finished) i) (finished_accepted v here blank m (ap is_finished blank_number))
        ∙ put_same i (kept zeros none) h

    blank_allowed : LaptopAllowed vol v (single (finished_call here blank m))
    blank_allowed = (λ z. refl, tt, tt)

  -- ---- a write of P

  write_takes : (v : Triple) (f : WriteFate) → WriteFateOf vol.size f → LaptopAllowed vol v (write here P m f)
  write_takes v f g = (λ z. refl, plain.bytes, g)

  -- power in one of its calls
  module _ (v : Triple) (I : Images vol.size vol.count v) where
    bytes_of : AnyBytes v
    bytes_of = any_bytes vol.size vol.count v I

    -- on a whole sector
    whole_cut : Is v here (whole zeros) → (h : State) → h i ≡ kept zeros none → (xs : List Call) (c : Call) (ys : List Call) → read (length P) ∷ stages P ≡ xs ++ (c ∷ ys)
        → CutIn vol v h (write here P m (cut_at (after_all xs (in_call k)))) i P k c
    unfolding is_finished
    whole_cut is h held xs c ys e =
        write_cut_in vol i P k v h none held m xs c ys
        (ap (λ (j : ℕ). read (length P) ∷ following P j) (read_by v bytes_of here P plain.bytes m (passes v I) (whole zeros) is) ∙ e)
        (subst (λ (cs : List Call). AllFinished (calls_answer here cs (v, m))) e
        (subst AllFinished (sym (whole_runs v bytes_of here P plain.bytes m (passes v I) zeros is)) (refl, (refl, (refl, (refl, tt))))))

    -- in the mend of a doubtful one
    mend_cut : (d : Place) → Is v here (doubtful d zeros) → (h : State) → h i ≡ kept zeros (some d) → CutIn vol v h (write here P m (cut_at (after_call (in_call k)))) i P k mend
    unfolding is_finished
    mend_cut d is h held =
        write_cut_in vol i P k v h (some d) held m (read (length P) ∷ []) mend (stages P)
        (ap (λ (j : ℕ). read (length P) ∷ following P j) (read_by v bytes_of here P plain.bytes m (passes v I) (doubtful d zeros) is)
        ∙ ap (λ (cs : List Call). read (length P) ∷ cs) (after_doubt P d))
        (subst AllFinished (sym (doubtful_runs v bytes_of here P plain.bytes m (passes v I) d zeros is)) (found_finished (some d), (found_finished (some d), (refl, (refl, (refl, tt))))))

  -- ---- events that meet a cut in the call c

  record Meets (v : Triple) (c : Call) : Type 0 where
    list : List LaptopEvent
    allowed : AllLaptopAllowed vol v list
    images : Images vol.size vol.count (run_laptop vol v list)
    met : (h : State) → Met vol v h list i P k c

  meets_whole : (v : Triple) → Images vol.size vol.count v → (xs : List Call) (c : Call) (ys : List Call) → read (length P) ∷ stages P ≡ xs ++ (c ∷ ys) → Meets v c
  meets_whole v I xs c ys e =
      let es : List LaptopEvent = single (finished_call here blank m) ∷ write here P m (cut_at (after_all xs (in_call k))) ∷ [] in
      let y : AllLaptopAllowed vol v es = (blank_allowed v I, (write_takes (blanked v I) (cut_at (after_all xs (in_call k))) (after_all_of vol.size xs (in_call k) cuts), tt)) in
      record {
        list = es;
        allowed = y;
        images = (laptop_history.from_gone vol v I es y).images;
        met = λ h. record {
          before = single (finished_call here blank m) ∷ [];
          event = write here P m (cut_at (after_all xs (in_call k)));
          behind = [];
          splits = refl;
          cut_in = whole_cut (blanked v I) (blank_images v I) (blank_whole v I) (hold_laptop vol v h (single (finished_call here blank m) ∷ [])) (blank_holds v I h) xs c ys e;
        };
      }

  module _ (d : Place) (x : List ℕ) (doubt : Doubt vol i d x) where
    abbrev hurt : Lent
    hurt = record { event = damage d i x; map = [] }

    -- the damaged sector is doubtful
    hurt_doubtful : (v : Triple) (I : Images vol.size vol.count v) → Is (laptop_leaves vol (blanked v I) (single hurt)) here (doubtful d zeros)
    hurt_doubtful v I =
        subst (λ (t : Triple). Means vol.size S i t (doubtful d zeros))
        (sym (sector-write vol.size vol.count i lt d x doubt.0 (blanked v I) (blank_images v I) ∙ ap (store d x) (blank-sector v I))) doubt.1

    -- and held so
    hurt_holds : (v : Triple) → Images vol.size vol.count v → (h : State) → hold_laptop vol v h (single (finished_call here blank m) ∷ single hurt ∷ []) i ≡ kept zeros (some d)
    hurt_holds v I h =
        let g : State = hold_laptop vol v h (single (finished_call here blank m) ∷ []) in
        put_same i (after_damage d (g i)) g ∙ ap (after_damage d) (blank_holds v I h)

    meets_mend : (v : Triple) → Images vol.size vol.count v → Meets v mend
    meets_mend v I =
        let es : List LaptopEvent = single (finished_call here blank m) ∷ single hurt ∷ [] in
        let fate : WriteFate = cut_at (after_call (in_call k)) in
        let all : List LaptopEvent = es ++ (write here P m fate ∷ []) in
        let y : AllLaptopAllowed vol v es = (blank_allowed v I, ((lt, doubt.0), tt)) in
        let z : AllLaptopAllowed vol v all = laptop_allowed_both vol es (write here P m fate ∷ []) v y (write_takes (run_laptop vol v es) fate cuts, tt) in
        record {
          list = all;
          allowed = z;
          images = (laptop_history.from_gone vol v I all z).images;
          met = λ h. record {
            before = es;
            event = write here P m fate;
            behind = [];
            splits = refl;
            cut_in = mend_cut (run_laptop vol v es) (laptop_history.from_gone vol v I es y).images d (hurt_doubtful v I) (hold_laptop vol v h es) (hurt_holds v I h);
          };
        }

  -- ---- a write that finishes, on a sector that was blanked

  abbrev last_two : List LaptopEvent
  last_two = single (finished_call here blank m) ∷ write here P m completed ∷ []

  last_allowed : (v : Triple) → Images vol.size vol.count v → AllLaptopAllowed vol v last_two
  last_allowed v I = (blank_allowed v I, (write_takes (blanked v I) completed tt, tt))

  last_holds : (v : Triple) → Images vol.size vol.count v → (h : State) → hold_laptop vol v h last_two i ≡ kept P none
  unfolding is_finished
  last_holds v I h =
      let u : Triple = blanked v I in
      let b : AnyBytes u = any_bytes vol.size vol.count u (blank_images v I) in
      finished_new vol u here P m b plain.bytes (hold_lent vol v h (finished_call here blank m ∷ []))
      (ap is_finished (number_by u b here P plain.bytes m (passes u (blank_images v I)) (whole zeros) (blank_whole v I)))

  -- ---- all of them

  holds_behind : (xs ys : List LaptopEvent) (v : Triple) → ((h : State) → hold_laptop vol (run_laptop vol v xs) h ys i ≡ kept P none)
      → (h : State) → hold_laptop vol v h (xs ++ ys) i ≡ kept P none
  holds_behind xs ys v f h = ap (λ (g : State). g i) (laptop_hold_both vol xs ys v h) ∙ f (hold_laptop vol v h xs)

  -- events that meet a cut in each of some calls
  record MeetsAll (v : Triple) (cs : List Call) : Type 0 where
    list : List LaptopEvent
    allowed : AllLaptopAllowed vol v list
    met : (h : State) → Every (Met vol v h list i P k) cs
    holds : (h : State) → hold_laptop vol v h list i ≡ kept P none

  meets_then : (v : Triple) (c : Call) (cs : List Call) (x : Meets v c) → MeetsAll (run_laptop vol v x.list) cs → MeetsAll v (c ∷ cs)
  meets_then v c cs x y = record {
    list = x.list ++ y.list;
    allowed = laptop_allowed_both vol x.list y.list v x.allowed y.allowed;
    met = λ h. (met_left vol i P k x.list y.list v h c (x.met h), every_right h cs (y.met (hold_laptop vol v h x.list)));
    holds = holds_behind x.list y.list v y.holds;
  }
    where
      every_right : (h : State) (cs : List Call) → Every (Met vol (run_laptop vol v x.list) (hold_laptop vol v h x.list) y.list i P k) cs → Every (Met vol v h (x.list ++ y.list) i P k) cs
      every_right h [] e = tt
      every_right h (c ∷ cs) e = (met_right vol i P k x.list y.list v h c e.0, every_right h cs e.1)

  all_met : (d : Place) (x : List ℕ) → Doubt vol i d x → (v : Triple) → Images vol.size vol.count v → MeetsAll v (mend ∷ read (length P) ∷ stages P)
  all_met d x doubt v I =
      let e₁ : Meets v mend = meets_mend d x doubt v I in
      let e₂ : Meets (run_laptop vol v e₁.list) (read (length P)) = meets_whole _ e₁.images [] (read (length P)) (stages P) refl in
      let e₃ : Meets (run_laptop vol _ e₂.list) (first P) = meets_whole _ e₂.images (read (length P) ∷ []) (first P) (second P ∷ third P ∷ []) refl in
      let e₄ : Meets (run_laptop vol _ e₃.list) (second P) = meets_whole _ e₃.images (read (length P) ∷ first P ∷ []) (second P) (third P ∷ []) refl in
      let e₅ : Meets (run_laptop vol _ e₄.list) (third P) = meets_whole _ e₄.images (read (length P) ∷ first P ∷ second P ∷ []) (third P) [] refl in
      meets_then _ _ _ e₁ (meets_then _ _ _ e₂ (meets_then _ _ _ e₃ (meets_then _ _ _ e₄ (meets_then _ _ _ e₅
      (record { list = last_two; allowed = last_allowed _ e₅.images; met = λ h. tt; holds = last_holds _ e₅.images })))))

pub each_cut : EveryCut
each_cut vol accepted v I i lt P plain k cuts d x doubt =
    let r = all_met vol accepted i lt P plain k cuts d x doubt v I in
    record {
      list = r.list;
      allowed = r.allowed;
      in_mend = (r.met start).0;
      in_read = (r.met start).1.0;
      in_first = (r.met start).1.1.0;
      in_second = (r.met start).1.1.1.0;
      in_third = (r.met start).1.1.1.1.0;
      holds = r.holds start;
    }
