-- The history of a volume with writes. Assumes nothing but the laws of the sealing.
use mathlib.Core.Path.{◌≡◌, refl, sym, ap, subst, ◌∙◌}
use mathlib.Core.Logic.{inl}
use mathlib.Core.Bool.{true}
use mathlib.Core.List.{List, [], ◌∷◌, ◌++◌, append_assoc}
use mathlib.Core.Option.{Option, none, some}
use Prim.Native.Nat.{ℕ, ◌<◌}
use lib.ListN.{length}
use Rattle.block.specs.Bytes.{Bytes}
use Rattle.block.proofs.Lists.{false-true}
use Rattle.mode.specs.Sealing.{Triple}
use Rattle.mode.specs.Scheme.{Place}
use Rattle.verdict.specs.Verdict.{Verdict, whole, doubtful, lost, clashing, Means}
use Rattle.verdict.specs.Judging.{verdict_number}
use Rattle.answers.specs.Rules.{Rule, first_of, Args, Volume, length_rules}
use Rattle.answers.proofs.Rules.{none_left}
use Rattle.history.specs.Machine.{kept, State, machine, start, called, Told, told_finished}
use Rattle.history.specs.Power.{Cut, Fate, finished, cut, call, Images, LentBytes, is_refused, told}
use Rattle.history.specs.Volume.{Call, first, second, third, mend, read, late, mirror, sector, sealing}
use Rattle.history.specs.History.{at, own}
use Rattle.history.specs.HistoryFrom.{AnyBytes}
use Rattle.history.specs.Meaning.{Is}
use Rattle.history.proofs.Images.{any_bytes}
use Rattle.history.proofs.Options.{none_some}
use Rattle.history.proofs.Events.{put_same}
use Rattle.suspects.specs.Marks.{is_finished, first_rules, map_outcome}
use Rattle.suspects.specs.Calls.{call_order}
use Rattle.suspects.specs.History.{Lent, lent_refusal, leaves_lent, lent_leaves, lent_seen, AllLentAllowed, run_lent, hold_lent, FoundLent, PromiseLent, PromisedLent}
use Rattle.suspects.proofs.History.{refused_leaves, refused_machine, demand_3_with_maps}
use Rattle.suspects.proofs.Marking.{found_finished, map_passed}
use Rattle.writes.specs.Write.{following, calls_leave, write_outcome}
use Rattle.writes.specs.Meaning.{calls_answer, write_rules, WritePasses}
use Rattle.writes.specs.History.{WriteCut, before_call, in_call, after_call, WriteFate, completed, cut_at, LaptopEvent, single, write, write_calls, finished_call, cut_call, call_events, events, WriteCutOf, WriteFateOf, laptop_leaves, LaptopAllowed, AllLaptopAllowed, run_laptop, hold_laptop, OldOrNew, NotClashing, held_after, WriteKeeps, WritePromised, PromisedLaptop, LaptopHistory}
use Rattle.writes.proofs.Accepted.{finished_accepted, read_only}
use Rattle.writes.proofs.Following.{after_doubt}
use Rattle.writes.proofs.Meaning.{read_by, number_by, one_verdict, whole_runs, doubtful_runs}
use Rattle.writes.proofs.Machine.{Writing, AllWriting, calls_writing, writing_lent, keeps_old_or_new, keeps_others}

-- the numbers of calls that finished
abbrev pub AllFinished : List ℕ → Type 0
AllFinished [] = Unit {0}
AllFinished (k ∷ ks) = (is_finished k ≡ true) × AllFinished ks

-- the calls xs have finished, and then
abbrev pub after_all : List Call → WriteCut → WriteCut
after_all [] f = f
after_all (x ∷ xs) f = after_call (after_all xs f)

pub after_all_of : (s : ℕ) (xs : List Call) (f : WriteCut) → WriteCutOf s f → WriteCutOf s (after_all xs f)
after_all_of s [] f p = p
after_all_of s (x ∷ xs) f p = after_all_of s xs f p

module _ (vol : Volume) where
  -- ---- lists of events with maps, one behind the other

  allowed_both : (xs ys : List Lent) (v : Triple) → AllLentAllowed vol v xs → AllLentAllowed vol (run_lent vol v xs) ys → AllLentAllowed vol v (xs ++ ys)
  allowed_both [] ys v p q = q
  allowed_both (x ∷ xs) ys v p q = (p.0, allowed_both xs ys (lent_leaves vol v x.event x.map) p.1 q)

  run_both : (xs ys : List Lent) (v : Triple) → run_lent vol v (xs ++ ys) ≡ run_lent vol (run_lent vol v xs) ys
  run_both [] ys v = refl
  run_both (x ∷ xs) ys v = run_both xs ys (lent_leaves vol v x.event x.map)

  hold_both : (xs ys : List Lent) (v : Triple) (h : State) → hold_lent vol v h (xs ++ ys) ≡ hold_lent vol (run_lent vol v xs) (hold_lent vol v h xs) ys
  hold_both [] ys v h = refl
  hold_both (x ∷ xs) ys v h = hold_both xs ys (lent_leaves vol v x.event x.map) (machine h (lent_seen vol v x.event x.map))

  -- ---- the calls of a write

  module _ (a : Args) where
    -- to where their events lead
    pub calls_lead : (cs : List Call) (d : Triple × List ℕ) → run_lent vol d.0 (call_events a completed cs d) ≡ (calls_leave mirror a cs d).0
    calls_lead [] d = refl
    calls_lead (c ∷ cs) d = calls_lead cs (map_outcome mirror d.0 a c d.1).1

    -- power goes after the calls xs have finished: in the next, or before it
    ends_in : (k : Cut) (xs : List Call) (c : Call) (ys : List Call) (d : Triple × List ℕ)
        → call_events a (cut_at (after_all xs (in_call k))) (xs ++ (c ∷ ys)) d ≡ call_events a completed xs d ++ (cut_call a c k (calls_leave mirror a xs d).1 ∷ [])
    ends_in k [] c ys d = refl
    ends_in k (x ∷ xs) c ys d = ap (λ (ls : List Lent). finished_call a x d.1 ∷ ls) (ends_in k xs c ys (map_outcome mirror d.0 a x d.1).1)

    ends-between : (xs ys : List Call) (d : Triple × List ℕ) → call_events a (cut_at (after_all xs before_call)) (xs ++ ys) d ≡ call_events a completed xs d
    ends-between [] [] d = refl
    ends-between [] (y ∷ ys) d = refl
    ends-between (x ∷ xs) ys d = ap (λ (ls : List Lent). finished_call a x d.1 ∷ ls) (ends-between xs ys (map_outcome mirror d.0 a x d.1).1)

    -- each is allowed in a list where the write takes the volume's key, number, s and n
    module _ (P : List ℕ) (bytes : Bytes P) (takes : a.volume ≡ vol) where
      events_allowed : (cs : List Call) → AllWriting P cs → (f : WriteFate) → WriteFateOf vol.size f → (d : Triple × List ℕ) → AllLentAllowed vol d.0 (call_events a f cs d)
      events_allowed [] w f g d = tt
      events_allowed (c ∷ cs) w completed g d =
          ((λ z. takes, writing_lent P bytes c w.0, tt), events_allowed cs w.1 completed g (map_outcome mirror d.0 a c d.1).1)
      events_allowed (c ∷ cs) w (cut_at before_call) g d = tt
      events_allowed (c ∷ cs) w (cut_at (in_call k)) g d = ((λ z. takes, writing_lent P bytes c w.0, g), tt)
      events_allowed (c ∷ cs) w (cut_at (after_call k)) g d =
          ((λ z. takes, writing_lent P bytes c w.0, tt), events_allowed cs w.1 (cut_at k) g (map_outcome mirror d.0 a c d.1).1)

    -- what is held of the sector after a call, and of the others
    module _ (c : Call) (f : Fate) (v : Triple) (m : List ℕ) (h : State) where
      abbrev after_call_lem : State
      after_call_lem = machine h (lent_seen vol v (call a c f) m)

      abbrev was_told : Told
      was_told = told (sealing mirror a) a.number (sector (leaves_lent v a c f m) a) c f

      call_keeps : (Q P : List ℕ) → Writing P c → OldOrNew Q P (h a.number) → OldOrNew Q P (after_call_lem a.number)
      call_keeps Q P w g = keeps_old_or_new Q P a c w (is_refused (lent_refusal v a c m)) was_told h g

      call_others : (j : ℕ) → (j ≡ a.number → ⊥) → after_call_lem j ≡ h j
      call_others j n = keeps_others a c (is_refused (lent_refusal v a c m)) was_told h j n

    events-keep : (Q P : List ℕ) (cs : List Call) → AllWriting P cs → (f : WriteFate) (d : Triple × List ℕ) (h : State) → OldOrNew Q P (h a.number)
        → OldOrNew Q P (hold_lent vol d.0 h (call_events a f cs d) a.number)
    events-keep Q P [] w f d h g = g
    events-keep Q P (c ∷ cs) w completed d h g =
        events-keep Q P cs w.1 completed (map_outcome mirror d.0 a c d.1).1 (after_call_lem c finished d.0 d.1 h) (call_keeps c finished d.0 d.1 h Q P w.0 g)
    events-keep Q P (c ∷ cs) w (cut_at before_call) d h g = g
    events-keep Q P (c ∷ cs) w (cut_at (in_call k)) d h g = call_keeps c (cut k) d.0 d.1 h Q P w.0 g
    events-keep Q P (c ∷ cs) w (cut_at (after_call k)) d h g =
        events-keep Q P cs w.1 (cut_at k) (map_outcome mirror d.0 a c d.1).1 (after_call_lem c finished d.0 d.1 h) (call_keeps c finished d.0 d.1 h Q P w.0 g)

    held_others : (cs : List Call) (f : WriteFate) (d : Triple × List ℕ) (h : State) (j : ℕ) → (j ≡ a.number → ⊥) → hold_lent vol d.0 h (call_events a f cs d) j ≡ h j
    held_others [] f d h j n = refl
    held_others (c ∷ cs) completed d h j n =
        held_others cs completed (map_outcome mirror d.0 a c d.1).1 (after_call_lem c finished d.0 d.1 h) j n ∙ call_others c finished d.0 d.1 h j n
    held_others (c ∷ cs) (cut_at before_call) d h j n = refl
    held_others (c ∷ cs) (cut_at (in_call k)) d h j n = call_others c (cut k) d.0 d.1 h j n
    held_others (c ∷ cs) (cut_at (after_call k)) d h j n =
        held_others cs (cut_at k) (map_outcome mirror d.0 a c d.1).1 (after_call_lem c finished d.0 d.1 h) j n ∙ call_others c finished d.0 d.1 h j n

    -- ---- a write that is refused

    module _ (c : Call) (v : Triple) (m : List ℕ) (k : ℕ) (e : lent_refusal v a c m ≡ some k) where
      lone_leaves : (f : WriteFate) → run_lent vol v (call_events a f (c ∷ []) (v, m)) ≡ v
      lone_leaves completed = refused_leaves vol v a c m finished e
      lone_leaves (cut_at before_call) = refl
      lone_leaves (cut_at (in_call t)) = refused_leaves vol v a c m (cut t) e
      lone_leaves (cut_at (after_call g)) = refused_leaves vol v a c m finished e

      lone_held : (f : WriteFate) (h : State) → hold_lent vol v h (call_events a f (c ∷ []) (v, m)) ≡ h
      lone_held completed h = refused_machine vol v a c m finished e h
      lone_held (cut_at before_call) h = refl
      lone_held (cut_at (in_call t)) h = refused_machine vol v a c m (cut t) e h
      lone_held (cut_at (after_call g)) h = refused_machine vol v a c m finished e h

      lone_allowed : LentBytes c → (f : WriteFate) → WriteFateOf vol.size f → AllLentAllowed vol v (call_events a f (c ∷ []) (v, m))
      lone_allowed l completed g = ((λ z. absurd (none_some (sym z ∙ e)), l, tt), tt)
      lone_allowed l (cut_at before_call) g = tt
      lone_allowed l (cut_at (in_call t)) g = ((λ z. absurd (none_some (sym z ∙ e)), l, g), tt)
      lone_allowed l (cut_at (after_call k)) g = ((λ z. absurd (none_some (sym z ∙ e)), l, tt), tt)

    -- ---- the bytes of the other sectors

    other_bytes : (cs : List Call) (f : WriteFate) (d : Triple × List ℕ) → Images vol.size vol.count d.0 → AllLentAllowed vol d.0 (call_events a f cs d)
        → (j : ℕ) → (j ≡ a.number → ⊥) → at vol (run_lent vol d.0 (call_events a f cs d)) j ≡ at vol d.0 j
    other_bytes [] f d I y j n = refl
    other_bytes (c ∷ cs) completed d I y j n =
        other_bytes cs completed (map_outcome mirror d.0 a c d.1).1 (demand_3_with_maps.from_gone vol d.0 I (finished_call a c d.1 ∷ []) (y.0, tt)).1 y.1 j n
        ∙ (demand_3_with_maps.from_gone vol d.0 I [] tt).0.others a c finished d.1 y.0 j n
    other_bytes (c ∷ cs) (cut_at before_call) d I y j n = refl
    other_bytes (c ∷ cs) (cut_at (in_call k)) d I y j n = (demand_3_with_maps.from_gone vol d.0 I [] tt).0.others a c (cut k) d.1 y.0 j n
    other_bytes (c ∷ cs) (cut_at (after_call k)) d I y j n =
        other_bytes cs (cut_at k) (map_outcome mirror d.0 a c d.1).1 (demand_3_with_maps.from_gone vol d.0 I (finished_call a c d.1 ∷ []) (y.0, tt)).1 y.1 j n
        ∙ (demand_3_with_maps.from_gone vol d.0 I [] tt).0.others a c finished d.1 y.0 j n

    -- ---- a third stage that ends the calls, all of which finish

    ends_new : (P : List ℕ) (cs : List Call) (d : Triple × List ℕ) (h : State) → AllFinished (calls_answer a (cs ++ (third P ∷ [])) d)
        → hold_lent vol d.0 h (call_events a completed (cs ++ (third P ∷ [])) d) a.number ≡ kept P none
    ends_new P [] d h y =
        ap (λ (o : Option ℕ). machine h (called a (third P) (is_refused o) told_finished) a.number) (finished_accepted d.0 a (third P) d.1 y.0)
        ∙ put_same a.number (kept P none) h
    ends_new P (c ∷ cs) d h y = ends_new P cs (map_outcome mirror d.0 a c d.1).1 (after_call_lem c finished d.0 d.1 h) y.1

  -- ---- a write

  module _ (v : Triple) (a : Args) (P m : List ℕ) where
    as_calls : run_lent vol v (events v (write a P m completed)) ≡ (write_outcome mirror v a P m).1.0
    unfolding write_outcome
    as_calls = calls_lead a (write_calls v a P m) (v, m)

    write_leads : (f : WriteFate) → run_lent vol v (events v (write a P m f)) ≡ laptop_leaves vol v (write a P m f)
    write_leads completed = as_calls
    write_leads (cut_at k) = refl

    refused_events : (f : WriteFate) (k : ℕ) → first_of (call_order v a (read (length P)) m) ≡ some k → events v (write a P m f) ≡ call_events a f (read (length P) ∷ []) (v, m)
    refused_events f k e = ap (λ (cs : List Call). call_events a f (read (length P) ∷ cs) (v, m)) (read_only v a P m k e)

    write_allowed : (f : WriteFate) → LaptopAllowed vol v (write a P m f) → AllLentAllowed vol v (events v (write a P m f))
    write_allowed f z = go (first_of (call_order v a (read (length P)) m)) refl
      where
        go : (o : Option ℕ) → first_of (call_order v a (read (length P)) m) ≡ o → AllLentAllowed vol v (events v (write a P m f))
        go none e = events_allowed a P z.1 (z.0 e) (write_calls v a P m) (calls_writing v a P m) f z.2 (v, m)
        go (some k) e = subst (AllLentAllowed vol v) (sym (refused_events f k e)) (lone_allowed a (read (length P)) v m k e tt f z.2)

    pub write_refused : (f : WriteFate) (k : ℕ) → first_of (call_order v a (read (length P)) m) ≡ some k → (h : State) → held_after vol v h a P m f ≡ h
    write_refused f k e h = ap (hold_lent vol v h) (refused_events f k e) ∙ lone_held a (read (length P)) v m k e f h

    write_keeps : Images vol.size vol.count v → (h : State) (f : WriteFate) → LaptopAllowed vol v (write a P m f)
        → PromisedLent vol (laptop_leaves vol v (write a P m f)) (held_after vol v h a P m f) → WriteKeeps vol v h a P m f
    write_keeps I h f z after = record {
      old_or_new = λ Q d e. events-keep a Q P (write_calls v a P m) (calls_writing v a P m) f (v, m) h (d, inl e);
      refused = λ k e. (
        sym (write_leads f) ∙ ap (run_lent vol v) (refused_events f k e) ∙ lone_leaves a (read (length P)) v m k e f,
        write_refused f k e h,
      );
      others = λ j n. (
        ap (λ (u : Triple). at vol u j) (sym (write_leads f)) ∙ other_bytes a (write_calls v a P m) f (v, m) I (write_allowed f z) j n,
        held_others a (write_calls v a P m) f (v, m) h j n,
      );
      demand_after = after;
    }

    pub power_in : (k : Cut) (xs : List Call) (c : Call) (ys : List Call) → write_calls v a P m ≡ xs ++ (c ∷ ys)
        → events v (write a P m (cut_at (after_all xs (in_call k)))) ≡ call_events a completed xs (v, m) ++ (cut_call a c k (calls_leave mirror a xs (v, m)).1 ∷ [])
    power_in k xs c ys e = ap (λ (cs : List Call). call_events a (cut_at (after_all xs (in_call k))) cs (v, m)) e ∙ ends_in a k xs c ys (v, m)

    power_between : (xs ys : List Call) → write_calls v a P m ≡ xs ++ ys → events v (write a P m (cut_at (after_all xs before_call))) ≡ call_events a completed xs (v, m)
    power_between xs ys e = ap (λ (cs : List Call). call_events a (cut_at (after_all xs before_call)) cs (v, m)) e ∙ ends-between a xs ys (v, m)

    -- ---- a write that finishes

    passes : first_of (call_order v a (read (length P)) m) ≡ none → WritePasses v a P m
    passes e =
        let own : List Rule = late (sealing mirror a) a.number (sector v a) (read (length P)) in
        none_left own (write_rules v a P m) (ap first_of (append_assoc (first_rules v a m) (length_rules (length P) a.volume.size) own) ∙ e)

    module _ (b : AnyBytes v) (bytes : Bytes P) where
      -- by the verdict that it found
      new_by : (e : WritePasses v a P m) (h : State) (w : Verdict) → Is v a w → is_finished (verdict_number w) ≡ true → held_after vol v h a P m completed a.number ≡ kept P none
      unfolding is_finished
      new_by e h (whole Q) is f =
          ap (λ (k : ℕ). hold_lent vol v h (call_events a completed (read (length P) ∷ following P k) (v, m)) a.number) (read_by v b a P bytes m e (whole Q) is)
          ∙ ends_new a P (read (length P) ∷ first P ∷ second P ∷ []) (v, m) h
          (subst AllFinished (sym (whole_runs v b a P bytes m e Q is)) (f, (f, (f, (f, tt)))))
      new_by e h (doubtful d Q) is f =
          ap (λ (k : ℕ). hold_lent vol v h (call_events a completed (read (length P) ∷ following P k) (v, m)) a.number) (read_by v b a P bytes m e (doubtful d Q) is)
          ∙ ap (λ (cs : List Call). hold_lent vol v h (call_events a completed (read (length P) ∷ cs) (v, m)) a.number) (after_doubt P d)
          ∙ ends_new a P (read (length P) ∷ mend ∷ first P ∷ second P ∷ []) (v, m) h
          (subst AllFinished (sym (doubtful_runs v b a P bytes m e d Q is)) (f, (f, (refl, (refl, (refl, tt))))))
      new_by e h lost is f = false-true f
      new_by e h clashing is f = false-true f

      pub finished_new : (h : State) → is_finished (write_outcome mirror v a P m).0 ≡ true → held_after vol v h a P m completed a.number ≡ kept P none
      unfolding write_outcome
      finished_new h f =
          let e : WritePasses v a P m = passes (finished_accepted v a (read (length P)) m f) in
          let w = one_verdict v b a P bytes m e in
          new_by e h w.0 w.1 (ap is_finished (sym (read_by v b a P bytes m e w.0 w.1)) ∙ f)

      -- ---- a write that is accepted

      -- not lost and not clashing
      found_by : (e : WritePasses v a P m) (w : Verdict) → Is v a w → (Is v a lost → ⊥) → (Is v a clashing → ⊥) → is_finished (write_outcome mirror v a P m).0 ≡ true
      unfolding is_finished
      found_by e (whole Q) is l c = ap is_finished (number_by v b a P bytes m e (whole Q) is)
      found_by e (doubtful d Q) is l c = ap is_finished (number_by v b a P bytes m e (doubtful d Q) is) ∙ found_finished (some d)
      found_by e lost is l c = absurd (l is)
      found_by e clashing is l c = absurd (c is)

  kept_found : (v : Triple) (i : ℕ) (Q : List ℕ) (d : Option Place) → PromiseLent vol v i (kept Q d) → FoundLent vol v i
  kept_found v i Q none p = p.0
  kept_found v i Q (some q) p = p.0

  module _ (v : Triple) (h : State) (I : Images vol.size vol.count v) (demand : PromisedLent vol v h) where
    write_accepted : (a : Args) (P m : List ℕ) → a.volume ≡ vol → Bytes P → WritePasses v a P m → (Q : List ℕ) (d : Option Place) → h a.number ≡ kept Q d
        → NotClashing vol v a.number → is_finished (write_outcome mirror v a P m).0 ≡ true
    write_accepted a P m takes bytes e Q d k n =
        let b : AnyBytes v = any_bytes vol.size vol.count v I in
        let lt : a.number < vol.count = subst (λ (u : Volume). a.number < u.count) takes (map_passed v a m (none_left (length_rules (length P) a.volume.size) (first_rules v a m) e)).1 in
        let found : FoundLent vol v a.number = kept_found v a.number Q d (subst (PromiseLent vol v a.number) k (demand.held a.number lt)) in
        let ours : (w : Verdict) → Is v a w → Means vol.size (own mirror vol) a.number (at vol v a.number) w = λ w. subst (λ (u : Volume). Means u.size (own mirror u) a.number (at u v a.number) w) takes in
        let w = one_verdict v b a P bytes m e in
        found_by v a P m b bytes e w.0 w.1 (λ is. found.not_lost (ours lost is)) (λ is. n (ours clashing is))

    write_promised : ((e : LaptopEvent) → LaptopAllowed vol v e → PromisedLent vol (laptop_leaves vol v e) (hold_lent vol v h (events v e)))
        → (a : Args) (P m : List ℕ) → WritePromised vol v h a P m
    write_promised after a P m = record {
      power_in = λ k xs c ys e. (after_all xs (in_call k), after_all_of vol.size xs (in_call k), power_in v a P m k xs c ys e);
      power_between = λ xs ys e. (after_all xs before_call, after_all_of vol.size xs before_call tt, power_between v a P m xs ys e);
      keeps = λ f z. write_keeps v a P m I h f z (after (write a P m f) z);
      finished_write = λ z. finished_new v a P m (any_bytes vol.size vol.count v I) z.1 h;
      accepted = write_accepted a P m;
      as_calls = as_calls v a P m;
    }

  -- ---- lists

  event_leads : (v : Triple) (e : LaptopEvent) → run_lent vol v (events v e) ≡ laptop_leaves vol v e
  event_leads v (single l) = refl
  event_leads v (write a P m f) = write_leads v a P m f

  event_allowed : (v : Triple) (e : LaptopEvent) → LaptopAllowed vol v e → AllLentAllowed vol v (events v e)
  event_allowed v (single l) z = (z, tt)
  event_allowed v (write a P m f) z = write_allowed v a P m f z

  -- events with maps that lead from the images v to where a list with writes leads
  record Led (v : Triple) (es : List LaptopEvent) : Type 0 where
    lents : List Lent
    allowed : AllLentAllowed vol v lents
    images : run_lent vol v lents ≡ run_laptop vol v es
    holds : (h : State) → hold_lent vol v h lents ≡ hold_laptop vol v h es

  led : (v : Triple) (es : List LaptopEvent) → AllLaptopAllowed vol v es → Led v es
  led v [] y = record { lents = []; allowed = tt; images = refl; holds = λ h. refl }
  led v (e ∷ es) y =
      let r : Led (laptop_leaves vol v e) es = led (laptop_leaves vol v e) es y.1 in
      let back : laptop_leaves vol v e ≡ run_lent vol v (events v e) = sym (event_leads v e) in
      record {
        lents = events v e ++ r.lents;
        allowed = allowed_both (events v e) r.lents v (event_allowed v e y.0) (subst (λ (u : Triple). AllLentAllowed vol u r.lents) back r.allowed);
        images = run_both (events v e) r.lents v ∙ ap (λ (u : Triple). run_lent vol u r.lents) (sym back) ∙ r.images;
        holds = λ h.
            hold_both (events v e) r.lents v h
            ∙ ap (λ (u : Triple). hold_lent vol u (hold_lent vol v h (events v e)) r.lents) (sym back)
            ∙ r.holds (hold_lent vol v h (events v e));
      }

  -- lists with writes, one behind the other
  pub laptop_allowed_both : (xs ys : List LaptopEvent) (v : Triple) → AllLaptopAllowed vol v xs → AllLaptopAllowed vol (run_laptop vol v xs) ys → AllLaptopAllowed vol v (xs ++ ys)
  laptop_allowed_both [] ys v p q = q
  laptop_allowed_both (x ∷ xs) ys v p q = (p.0, laptop_allowed_both xs ys (laptop_leaves vol v x) p.1 q)

  pub laptop_run_both : (xs ys : List LaptopEvent) (v : Triple) → run_laptop vol v (xs ++ ys) ≡ run_laptop vol (run_laptop vol v xs) ys
  laptop_run_both [] ys v = refl
  laptop_run_both (x ∷ xs) ys v = laptop_run_both xs ys (laptop_leaves vol v x)

  pub laptop_hold_both : (xs ys : List LaptopEvent) (v : Triple) (h : State) → hold_laptop vol v h (xs ++ ys) ≡ hold_laptop vol (run_laptop vol v xs) (hold_laptop vol v h xs) ys
  laptop_hold_both [] ys v h = refl
  laptop_hold_both (x ∷ xs) ys v h = laptop_hold_both xs ys (laptop_leaves vol v x) (hold_lent vol v h (events v x))

  -- demand 3 after a list
  module _ (v : Triple) (I : Images vol.size vol.count v) where
    demanded : (es : List LaptopEvent) → AllLaptopAllowed vol v es → PromisedLent vol (run_laptop vol v es) (hold_laptop vol v start es) × Images vol.size vol.count (run_laptop vol v es)
    demanded es y =
        let r = led v es y in
        let p = demand_3_with_maps.from_gone vol v I r.lents r.allowed in (
          subst (PromisedLent vol (run_laptop vol v es)) (r.holds start) (subst (λ (u : Triple). PromisedLent vol u (hold_lent vol v start r.lents)) r.images p.0),
          subst (Images vol.size vol.count) r.images p.1,
        )

    -- and after one more event
    demanded_after : (es : List LaptopEvent) → AllLaptopAllowed vol v es → (e : LaptopEvent) → LaptopAllowed vol (run_laptop vol v es) e
        → PromisedLent vol (laptop_leaves vol (run_laptop vol v es) e) (hold_lent vol (run_laptop vol v es) (hold_laptop vol v start es) (events (run_laptop vol v es) e))
    demanded_after es y e z =
        subst (PromisedLent vol (laptop_leaves vol (run_laptop vol v es) e)) (laptop_hold_both es (e ∷ []) v start)
        (subst (λ (u : Triple). PromisedLent vol u (hold_laptop vol v start (es ++ (e ∷ [])))) (laptop_run_both es (e ∷ []) v)
        (demanded (es ++ (e ∷ [])) (laptop_allowed_both es (e ∷ []) v y (z, tt))).0)

    promised : (es : List LaptopEvent) → AllLaptopAllowed vol v es → PromisedLaptop vol (run_laptop vol v es) (hold_laptop vol v start es)
    promised es y =
        let d = demanded es y in
        record {
          demand = d.0;
          images = d.1;
          each_write = write_promised (run_laptop vol v es) (hold_laptop vol v start es) d.1 d.0 (demanded_after es y);
        }

pub laptop_history : LaptopHistory
laptop_history = record { from_gone = promised }
