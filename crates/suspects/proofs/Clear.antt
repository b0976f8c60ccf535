-- A clear bit is a whole sector's. Assumes nothing but the laws of the sealing.
use mathlib.Core.Path.{◌≡◌, refl, sym, ap, subst, ◌∙◌}
use mathlib.Core.Logic.{◌⊎◌, inl, inr}
use mathlib.Core.Bool.{Bool, true, false, cond}
use mathlib.Core.List.{List, [], ◌∷◌}
use mathlib.Core.Option.{Option, none, some}
use Prim.Native.Nat.{ℕ, ◌<◌}
use native.Mathlib.Decide.{ℕ_discrete}
use lib.Dec.{eqb}
use lib.ListN.{length}
use borrow.Author.Tests.{eq-eqb, ne_eqb, lt-ltb}
use Rattle.block.proofs.Lists.{false-true, clash}
use Rattle.bits.specs.Bits.{bit}
use Rattle.mode.specs.Sealing.{Triple}
use Rattle.mode.specs.Scheme.{Place, Scheme}
use Rattle.answers.specs.Answers.{found_number}
use Rattle.answers.specs.Rules.{first_of, Volume, Args, count_and_map_rules}
use Rattle.verdict.specs.Judging.{verdict_doubt, verdict_plain}
use Rattle.verdict.specs.Verdict.{Verdict, whole, doubtful, lost, clashing, Means, judge}
use Rattle.verdict.proofs.JudgeExact.{two_but, but_miss, judge_means}
use Rattle.history.specs.Answers.{answer_number}
use Rattle.history.specs.History.{at, own}
use Rattle.history.specs.HistoryFrom.{Agree, AnyBytes, Agrees}
use Rattle.history.specs.Machine.{Held, kept, State, put, start}
use Rattle.history.specs.Power.{finished, call, LentBytes, Images, leaves_call, AllAllowed}
use Rattle.history.specs.Rules.{held}
use Rattle.history.specs.Volume.{Call, blank, first, second, third, mend, read, judge_rules, result, refusal, outcome, mirror}
use Rattle.history.proofs.Demand3.{mirror_sound, general}
use Rattle.history.proofs.Events.{put_same, put_other, args_of, takes_args}
use Rattle.history.proofs.History.{start_agrees}
use Rattle.history.proofs.Images.{any_bytes, sector_images, leaves_accepted, passed_lawful}
use Rattle.history.proofs.Options.{none_some}
use Rattle.history.proofs.Refusals.{refusal_none, accepted_passed, accepted_images}
use Rattle.history.proofs.Rules.{plain_machine}
use Rattle.map.specs.Map.{started, start_outcome}
use Rattle.map.proofs.MapFacts.{map_facts}
use Rattle.report.specs.Survey.{WholeAt}
use Rattle.suspects.specs.declared.Mark.{Mark}
use Rattle.suspects.specs.declared.Mark.TheVariants.{Sets, Keeps}
use Rattle.suspects.specs.Marks.{is_finished, marks, marked, map_outcome}
use Rattle.suspects.specs.Calls.{turned, call_order}
use Rattle.suspects.specs.Lists.{Disk, disk, Step, on_sector, starts_map, looks_only, writes_images, step_leaves, list_leaves, Takes, AllTake, ClearIsWhole}
use Rattle.suspects.proofs.Marking as M
use Rattle.suspects.proofs.Calls.{none_of_order, accepted_number, map_calls}

-- ---- what is held of a sector

module _ (s : ℕ) (S : Scheme) (i : ℕ) (t : Triple) where
  -- a plaintext held without doubt is a whole sector's
  sure_whole : (P : List ℕ) → Agree s S i t (kept P none) → Means s S i t (whole P)
  sure_whole P g = (g.0, λ p. g.1 p none_some)

  -- a verdict that is not refused can be held
  verdict_held : (w : Verdict) → Means s S i t w → first_of (judge_rules w) ≡ none → Agree s S i t (kept (verdict_plain w) (verdict_doubt w))
  verdict_held (whole P) m e = (m.0, λ p n. m.1 p)
  verdict_held (doubtful d P) m e =
      let b = two_but S i t P m.1 in
      let miss : d ≡ b.0 = but_miss S i t b.0 d P b.1 m.3 in
      (m.0, λ p n. b.1 p (λ z. n (ap some (miss ∙ sym z))))
  verdict_held lost m e = absurd (none_some (sym e))
  verdict_held clashing m e = absurd (none_some (sym e))

-- ---- a call that is not refused

-- a read that leaves its bit clear finds no doubt
read_sure : (o : ℕ) (d : Option Place) (x : Bool) → turned (marks (read o) (found_number d)) x ≡ false → d ≡ none
read_sure o none x z = refl
read_sure o (some d) x z = false-true (sym z ∙ ap (λ (y : Mark). turned y x) (M.doubt_read o d))

module _ (vol : Volume) (v : Triple) (b : AnyBytes v) (i : ℕ) where
  abbrev a : Args
  a = args_of vol i

  abbrev S : Scheme
  S = own mirror vol

  abbrev verdict : Verdict
  verdict = judge S i (at vol v i)

  -- all gone but one sector
  one_held : Images vol.size vol.count v → (x : Held) → Agree vol.size S i (at vol v i) x → Agrees mirror vol v (put i x start)
  one_held I x g = record { images = I; agree = λ j lt. go j (ℕ_discrete j i) }
    where
      go : (j : ℕ) → Dec (j ≡ i) → Agree vol.size S j (at vol v j) (put i x start j)
      go j (yes e) =
          subst (λ (k : ℕ). Agree vol.size S k (at vol v k) (put i x start k)) (sym e)
          (subst (λ (y : Held). Agree vol.size S i (at vol v i) y) (sym (put_same i x start)) g)
      go j (no n) = subst (λ (y : Held). Agree vol.size S j (at vol v j) y) (sym (put_other i x start j n)) tt

  module _ (c : Call) (lent : LentBytes c) (e : refusal mirror v a c ≡ none) where
    abbrev now : Triple
    now = leaves_call mirror v a c finished

    allowed : AllAllowed mirror vol v (call a c finished ∷ [])
    allowed = (((λ z. refl), lent, tt), tt)

    before : Images vol.size vol.count v
    before = accepted_images mirror v a c b e

    number_below : i < vol.count
    number_below = (accepted_passed mirror v a c e).number

    bytes_now : AnyBytes now
    bytes_now = any_bytes vol.size vol.count now ((general.from_agreeing vol v start (start_agrees mirror vol v before)).1 (call a c finished ∷ []) allowed).images

    others_now : (j : ℕ) → (j ≡ i → ⊥) → WholeAt vol v j → WholeAt vol now j
    others_now j n w = (
      w.0,
      subst (λ (t : Triple). Means vol.size S j t (whole w.0))
          (sym ((general.from_any_lengths vol v b [] tt).others a c finished allowed.0 j n)) w.1,
    )

    -- what the machine then holds without doubt is whole
    held_whole : (h : State) → Agrees mirror vol v h → (P : List ℕ) → held vol v h (call a c finished) i ≡ kept P none → WholeAt vol now i
    held_whole h g P k = (
      P,
      sure_whole vol.size S i (at vol now i) P
          (subst (λ (y : Held). Agree vol.size S i (at vol now i) y) k
          (((general.from_agreeing vol v h g).1 (call a c finished ∷ []) allowed).agree i number_below)),
    )

    -- a verdict for which the call is not refused can be held
    found : first_of (judge_rules verdict) ≡ none → Agree vol.size S i (at vol v i) (kept (verdict_plain verdict) (verdict_doubt verdict))
    found n =
        verdict_held vol.size S i (at vol v i) verdict
        (judge_means vol.size S (passed_lawful mirror mirror_sound v a (accepted_passed mirror v a c e).common) i (at vol v i)
        (sector_images vol.size vol.count i number_below v before)) n

  -- a call that leaves its bit clear leaves its sector whole
  whole_now : (c : Call) → LentBytes c → refusal mirror v a c ≡ none → (x : Bool) → turned (marks c (outcome mirror v a c).0) x ≡ false
      → WholeAt vol (leaves_call mirror v a c finished) i
  unfolding is_finished
  whole_now c l e x z = go c l e (subst (λ (k : ℕ). turned (marks c k) x ≡ false) (accepted_number v a c e) z)
    where
      go : (c : Call) → LentBytes c → refusal mirror v a c ≡ none → turned (marks c (answer_number (result S i (at vol v i) c))) x ≡ false
          → WholeAt vol (leaves_call mirror v a c finished) i
      go blank l e z = held_whole blank l e start (start_agrees mirror vol v (before blank l e)) _ ((plain_machine vol v start).blank_finished a e)
      go (first P) l e z = false-true (sym z)
      go (second P) l e z = false-true (sym z)
      go (third P) l e z = held_whole (third P) l e start (start_agrees mirror vol v (before (third P) l e)) P ((plain_machine vol v start).third_finished a P e)
      go mend l e z =
          let y : Held = kept (verdict_plain verdict) (verdict_doubt verdict) in
          let h : State = put i y start in
          held_whole mend l e h (one_held (before mend l e) y (found mend l e (refusal_none mirror v a mend e).1)) (verdict_plain verdict)
          ((plain_machine vol v h).mend_kept a e (verdict_plain verdict) (verdict_doubt verdict) (put_same i y start))
      go (read o) l e z =
          subst (λ (u : Triple). WholeAt vol u i) (sym (leaves_accepted mirror v a (read o) finished e)) (
            verdict_plain verdict,
            sure_whole vol.size S i (at vol v i) (verdict_plain verdict)
                (subst (λ (d : Option Place). Agree vol.size S i (at vol v i) (kept (verdict_plain verdict) d)) (read_sure o (verdict_doubt verdict) x z)
                (found (read o) l e (refusal_none mirror v a (read o) e).1)),
          )

-- ---- the calls with a map

-- a mark that does not clear leaves no bit clear that was set
not_cleared : (b x : Bool) (k : Mark) → (k ≡ Keeps) ⊎ (k ≡ Sets) → cond b (turned k x) x ≡ false → x ≡ false
not_cleared false x k h z = z
not_cleared true x k (inl e) z = subst (λ (j : Mark). turned j x ≡ false) e z
not_cleared true x k (inr e) z = false-true (sym (subst (λ (j : Mark). turned j x ≡ false) e z))

-- the images are bytes, and each clear bit below n is a whole sector's
record Clear (vol : Volume) (d : Disk) : Type 0 where
  bytes : AnyBytes d.images
  clear : (i : ℕ) → i < vol.count → bit i d.map ≡ false → WholeAt vol d.images i

module _ (vol : Volume) where
  clear_started : (v : Triple) → AnyBytes v → Clear vol (disk v (started vol.count))
  clear_started v b = record { bytes = b; clear = λ i lt z. clash (map_facts.started_bit vol.count i ∙ lt-ltb i vol.count lt) z }

  module _ (v : Triple) (m : List ℕ) (g : Clear vol (disk v m)) where
    module _ (a : Args) (c : Call) where
      abbrev after_call_lem : Disk
      after_call_lem = step_leaves (disk v m) (on_sector a c)

      bit_now : (i k : ℕ) → (map_outcome mirror v a c m).0 ≡ k → bit i after_call_lem.map ≡ cond (eqb i a.number) (turned (marks c k) (bit i m)) (bit i m)
      bit_now i k e = map_calls.bits v a c m i ∙ ap (λ (j : ℕ). cond (eqb i a.number) (turned (marks c j) (bit i m)) (bit i m)) e

      clear_refused : (k : ℕ) → first_of (call_order v a c m) ≡ some k → Clear vol after_call_lem
      clear_refused k e =
          let r : map_outcome mirror v a c m ≡ (k, (v, marked (marks c k) a.number m)) = map_calls.refuses v a c m k e in
          let same : v ≡ after_call_lem.images = sym (ap (λ (x : ℕ × (Triple × List ℕ)). x.1.0) r) in
          record {
            bytes = subst AnyBytes same g.bytes;
            clear = λ i lt z. subst (λ (u : Triple). WholeAt vol u i) same
                (g.clear i lt (not_cleared (eqb i a.number) (bit i m) (marks c k) (M.keeps_or_sets c k (M.refused_ends v a c m k e))
                (sym (bit_now i k (ap (λ (x : ℕ × (Triple × List ℕ)). x.0) r)) ∙ z)));
          }

    module _ (i : ℕ) (c : Call) (lent : LentBytes c) (e : first_of (call_order v (args_of vol i) c m) ≡ none) where
      abbrev ours : Args
      ours = args_of vol i

      accepted : refusal mirror v ours c ≡ none
      accepted = (none_of_order v ours c m e).1

      answers : ((map_outcome mirror v ours c m).0 ≡ (outcome mirror v ours c).0) × ((map_outcome mirror v ours c m).1.0 ≡ leaves_call mirror v ours c finished)
      unfolding outcome leaves_call
      answers = let r = map_calls.as_without v ours c m (M.map_passed v ours m (none_of_order v ours c m e).0).0 in
          (ap (λ (x : ℕ × (Triple × List ℕ)). x.0) r, ap (λ (x : ℕ × (Triple × List ℕ)). x.1.0) r)

      -- what a clear bit says of the mark, if it is the sector's own, or of the bit before
      cleared : (j : ℕ) {x : Bool} → eqb j i ≡ x → bit j (after_call_lem ours c).map ≡ false → cond x (turned (marks c (outcome mirror v ours c).0) (bit j m)) (bit j m) ≡ false
      cleared j q z = ap (λ (x : Bool). cond x (turned (marks c (outcome mirror v ours c).0) (bit j m)) (bit j m)) (sym q) ∙ sym (bit_now ours c j _ answers.0) ∙ z

      clear_now : (j : ℕ) → j < vol.count → bit j (after_call_lem ours c).map ≡ false → Dec (j ≡ i) → WholeAt vol (leaves_call mirror v ours c finished) j
      clear_now j lt z (yes q) =
          subst (λ (k : ℕ). WholeAt vol (leaves_call mirror v ours c finished) k) (sym q)
          (whole_now vol v g.bytes i c lent accepted (bit j m) (cleared j (eq-eqb j i q) z))
      clear_now j lt z (no n) = others_now vol v g.bytes i c lent accepted j n (g.clear j lt (cleared j (ne_eqb j i n) z))

      clear_accepted : Clear vol (after_call_lem ours c)
      clear_accepted = record {
        bytes = subst AnyBytes (sym answers.1) (bytes_now vol v g.bytes i c lent accepted);
        clear = λ j lt z. subst (λ (u : Triple). WholeAt vol u j) (sym answers.1) (clear_now j lt z (ℕ_discrete j i));
      }

    clear_call : (a : Args) (c : Call) → Takes vol (disk v m) (on_sector a c) → Clear vol (after_call_lem a c)
    clear_call a c t = go (first_of (call_order v a c m)) refl
      where
        go : (o : Option ℕ) → first_of (call_order v a c m) ≡ o → Clear vol (after_call_lem a c)
        go none e =
            subst (λ (b : Args). first_of (call_order v b c m) ≡ none → Clear vol (after_call_lem b c)) (sym (takes_args vol a (t.0 e)))
            (clear_accepted a.number c t.1) e
        go (some k) e = clear_refused a c k e

    clear_begun : (n : ℕ) → Takes vol (disk v m) (starts_map n) → Clear vol (step_leaves (disk v m) (starts_map n))
    clear_begun n t = go (first_of (count_and_map_rules n (length m))) refl
      where
        go : (o : Option ℕ) → first_of (count_and_map_rules n (length m)) ≡ o → Clear vol (disk v (start_outcome n m).1)
        go none e =
            subst (λ (r : ℕ × List ℕ). Clear vol (disk v r.1)) (sym (map_facts.starts n m e))
            (subst (λ (k : ℕ). Clear vol (disk v (started k))) (sym (t e)) (clear_started v g.bytes))
        go (some k) e = subst (λ (r : ℕ × List ℕ). Clear vol (disk v r.1)) (sym (map_facts.start_refuses n m k e)) g

  clear_step : (d : Disk) → Clear vol d → (e : Step) → Takes vol d e → Clear vol (step_leaves d e)
  clear_step d g (on_sector a c) t = clear_call d.images d.map g a c t
  clear_step d g (starts_map n) t = clear_begun d.images d.map g n t
  clear_step d g looks_only t = g
  clear_step d g (writes_images v) t = absurd t

  clear_list : (d : Disk) → Clear vol d → (es : List Step) → AllTake vol d es → Clear vol (list_leaves d es)
  clear_list d g [] t = g
  clear_list d g (e ∷ es) t = clear_list (step_leaves d e) (clear_step d g e t.0) es t.1

-- ---- the theorem

pub clear_is_whole : ClearIsWhole
clear_is_whole vol v b es t = (clear_list vol (disk v (started vol.count)) (clear_started vol v b) es t).clear
