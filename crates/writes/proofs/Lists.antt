-- The two theorems about the map, over lists with writes. Assumes nothing but the laws of the sealing.
use mathlib.Core.Path.{◌≡◌, refl, sym, ap, subst, ◌∙◌}
use mathlib.Core.Bool.{Bool, true, false, cond}
use mathlib.Core.List.{List, [], ◌∷◌, ◌++◌}
use mathlib.Core.Option.{Option, none, some}
use Prim.Native.Nat.{ℕ}
use lib.Dec.{eqb, ltb}
use lib.ListN.{length}
use Rattle.bits.specs.Bits.{bit}
use Rattle.block.specs.Bytes.{Bytes}
use Rattle.mode.specs.Sealing.{Triple}
use Rattle.mode.specs.Scheme.{Place, local, tag, remote}
use Rattle.answers.specs.Answers.{doubt_number}
use Rattle.answers.specs.Rules.{first_of, Args, Volume}
use Rattle.verdict.specs.Verdict.{Verdict, whole, doubtful, lost, clashing}
use Rattle.map.specs.Map.{started}
use Rattle.history.specs.HistoryFrom.{AnyBytes}
use Rattle.history.specs.Meaning.{Is}
use Rattle.history.specs.Power.{finished, call, LentBytes, leaves_call}
use Rattle.history.specs.Volume.{Call, mend, read, outcome, mirror}
use Rattle.history.proofs.Demand3.{mirror_sound}
use Rattle.history.proofs.Events.{leaves_bytes}
use Rattle.history.proofs.Options.{none_some}
use Rattle.report.specs.Survey.{WholeAt}
use Rattle.suspects.specs.declared.Mark.{Mark}
use Rattle.suspects.specs.declared.Mark.TheVariants.{Keeps}
use Rattle.suspects.specs.Marks.{is_finished, lost_or_clashing, marks, map_refusal, map_outcome}
use Rattle.suspects.specs.Calls.{turned, call_order}
use Rattle.suspects.specs.Lists.{Disk, disk, Step, on_sector, starts_map, looks_only, writes_images, step_leaves, list_leaves, Noted, noted_call, step_notes, list_notes, ruled, ruled_all, AllTake}
use Rattle.suspects.proofs.Calls.{marked_done, marked_refused}
use Rattle.suspects.proofs.Rule.{map_rule}
use Rattle.suspects.proofs.Clear.{clear_is_whole}
use Rattle.writes.specs.Write.{stages, following, calls_leave, write_outcome}
use Rattle.writes.specs.Meaning.{calls_answer, write_rules, WritePasses}
use Rattle.writes.specs.History.{write_calls}
use Rattle.writes.specs.Lists.{WriteStep, other, one_call, write_step_leaves, write_list_leaves, call_steps, steps_of, steps, WriteTakes, AllWriteTake, noted_write, write_notes, all_notes, write_ruled, all_ruled, StepBytes, AllStepBytes, WriteLists}
use Rattle.writes.proofs.Following.{after_doubt, after-refusal}
use Rattle.writes.proofs.Accepted.{keeps_unfinished, read_only}
use Rattle.writes.proofs.Meaning.{rules-keep, read_refused, read_by, one_verdict, whole_runs, doubtful_runs}
use Rattle.writes.proofs.Machine.{AllWriting, calls_writing, writing_lent}

-- ---- lists one behind the other

list_both : (xs ys : List Step) (d : Disk) → list_leaves d (xs ++ ys) ≡ list_leaves (list_leaves d xs) ys
list_both [] ys d = refl
list_both (x ∷ xs) ys d = list_both xs ys (step_leaves d x)

take_both : (vol : Volume) (xs ys : List Step) (d : Disk) → AllTake vol d xs → AllTake vol (list_leaves d xs) ys → AllTake vol d (xs ++ ys)
take_both vol [] ys d p q = q
take_both vol (x ∷ xs) ys d p q = (p.0, take_both vol xs ys (step_leaves d x) p.1 q)

-- ---- one step

calls_leave_lem : (a : Args) (cs : List Call) (d : Disk) → let e = calls_leave mirror a cs (d.images, d.map) in list_leaves d (call_steps a cs) ≡ disk e.0 e.1
calls_leave_lem a [] d = refl
calls_leave_lem a (c ∷ cs) d = calls_leave_lem a cs (let r = map_outcome mirror d.images a c d.map in disk r.1.0 r.1.1)

step_leaves_lem : (d : Disk) (e : WriteStep) → list_leaves d (steps_of d e) ≡ write_step_leaves d e
unfolding write_outcome
step_leaves_lem d (other e) = refl
step_leaves_lem d (one_call a P) = calls_leave_lem a (write_calls d.images a P d.map) d

module _ (vol : Volume) where
  calls_take : (a : Args) (P : List ℕ) → Bytes P → a.volume ≡ vol → (cs : List Call) → AllWriting P cs → (d : Disk) → AllTake vol d (call_steps a cs)
  calls_take a P b t [] w d = tt
  calls_take a P b t (c ∷ cs) w d = ((λ z. t, writing_lent P b c w.0), calls_take a P b t cs w.1 (let r = map_outcome mirror d.images a c d.map in disk r.1.0 r.1.1))

  step_takes : (d : Disk) (e : WriteStep) → WriteTakes vol d e → AllTake vol d (steps_of d e)
  step_takes d (other e) t = (t, tt)
  step_takes d (one_call a P) t = go (first_of (call_order d.images a (read (length P)) d.map)) refl
    where
      go : (o : Option ℕ) → first_of (call_order d.images a (read (length P)) d.map) ≡ o → AllTake vol d (steps_of d (one_call a P))
      go none e = calls_take a P t.1 (t.0 e) (write_calls d.images a P d.map) (calls_writing d.images a P d.map) d
      go (some k) e =
          subst (λ (cs : List Call). AllTake vol d (call_steps a (read (length P) ∷ cs))) (sym (read_only d.images a P d.map k e))
          ((λ z. absurd (none_some (sym z ∙ e)), tt), tt)

-- ---- lists

as_steps : (d : Disk) (es : List WriteStep) → write_list_leaves d es ≡ list_leaves d (steps d es)
as_steps d [] = refl
as_steps d (e ∷ es) =
    as_steps (write_step_leaves d e) es
    ∙ ap (λ (x : Disk). list_leaves x (steps (write_step_leaves d e) es)) (sym (step_leaves_lem d e))
    ∙ sym (list_both (steps_of d e) (steps (write_step_leaves d e) es) d)

all_take : (vol : Volume) (d : Disk) (es : List WriteStep) → AllWriteTake vol d es → AllTake vol d (steps d es)
all_take vol d [] t = tt
all_take vol d (e ∷ es) t =
    take_both vol (steps_of d e) (steps (write_step_leaves d e) es) d (step_takes vol d e t.0)
    (subst (λ (x : Disk). AllTake vol x (steps (write_step_leaves d e) es)) (sym (step_leaves_lem d e)) (all_take vol (write_step_leaves d e) es t.1))

-- ---- the rule

ruled_both : (i : ℕ) (xs ys : List Noted) (b : Bool) → ruled_all i b (xs ++ ys) ≡ ruled_all i (ruled_all i b xs) ys
ruled_both i [] ys b = refl
ruled_both i (x ∷ xs) ys b = ruled_both i xs ys (ruled i b x)

notes_both : (xs ys : List Step) (d : Disk) → list_notes d (xs ++ ys) ≡ list_notes d xs ++ list_notes (list_leaves d xs) ys
notes_both [] ys d = refl
notes_both (x ∷ xs) ys d = ap (λ (ns : List Noted). step_notes d x ∷ ns) (notes_both xs ys (step_leaves d x))

-- the notes of calls on one sector, by their answers
abbrev noted_calls : ℕ → List Call → List ℕ → List Noted
noted_calls j [] ks = []
noted_calls j (c ∷ cs) [] = []
noted_calls j (c ∷ cs) (k ∷ ks) = noted_call c j k ∷ noted_calls j cs ks

calls_noted : (a : Args) (cs : List Call) (d : Disk) → list_notes d (call_steps a cs) ≡ noted_calls a.number cs (calls_answer a cs (d.images, d.map))
calls_noted a [] d = refl
calls_noted a (c ∷ cs) d = ap (λ (ns : List Noted). step_notes d (on_sector a c) ∷ ns) (calls_noted a cs (step_leaves d (on_sector a c)))

module _ (i : ℕ) (b : Bool) (v : Triple) (bytes : AnyBytes v) (a : Args) (P : List ℕ) (plain : Bytes P) (m : List ℕ) where
  -- what the calls make of the bit is what the write's own answer makes of it
  abbrev Same : ℕ → List Call → List ℕ → Type 0
  Same k cs ks = ruled_all i b (noted_calls a.number (read (length P) ∷ cs) ks) ≡ write_ruled i b (noted_write a.number k)

  same_by : {k : ℕ} {ks : List ℕ} (cs : List Call) → (map_outcome mirror v a (read (length P)) m).0 ≡ k → following P k ≡ cs
      → calls_answer a (read (length P) ∷ cs) (v, m) ≡ ks → Same k cs ks
      → ruled_all i b (list_notes (disk v m) (steps_of (disk v m) (one_call a P))) ≡ write_ruled i b (write_notes (disk v m) (one_call a P))
  unfolding write_outcome
  same_by {k} {ks} cs e f g s =
      ap (λ (j : ℕ). ruled_all i b (list_notes (disk v m) (call_steps a (read (length P) ∷ following P j)))) e
      ∙ ap (λ (cs : List Call). ruled_all i b (list_notes (disk v m) (call_steps a (read (length P) ∷ cs)))) f
      ∙ ap (ruled_all i b) (calls_noted a (read (length P) ∷ cs) (disk v m))
      ∙ ap (λ (ks : List ℕ). ruled_all i b (noted_calls a.number (read (length P) ∷ cs) ks)) g
      ∙ s
      ∙ ap (λ (j : ℕ). write_ruled i b (noted_write a.number j)) (sym e)

  same_whole : Same 0 (stages P) (0 ∷ 0 ∷ 0 ∷ 0 ∷ [])
  unfolding is_finished
  same_whole = go (eqb i a.number)
    where
      go : (x : Bool) → cond x false (cond x true (cond x true (cond x false b))) ≡ cond x false b
      go true = refl
      go false = refl

  same_doubtful : (d : Place) → Same (doubt_number d) (mend ∷ stages P) (doubt_number d ∷ doubt_number d ∷ 0 ∷ 0 ∷ 0 ∷ [])
  unfolding is_finished
  same_doubtful d = at d
    where
      go : (x : Bool) → cond x false (cond x true (cond x true (cond x false (cond x true b)))) ≡ cond x false b
      go true = refl
      go false = refl

      at : (d : Place) → Same (doubt_number d) (mend ∷ stages P) (doubt_number d ∷ doubt_number d ∷ 0 ∷ 0 ∷ 0 ∷ [])
      at local = go (eqb i a.number)
      at tag = go (eqb i a.number)
      at remote = go (eqb i a.number)

  -- a read alone
  lone : (k : ℕ) → marks (read (length P)) k ≡ marks mend k → Same k [] (k ∷ [])
  lone k e = ap (λ (x : Mark). cond (eqb i a.number) (turned x b) b) e

  write-ruled : ruled_all i b (list_notes (disk v m) (steps_of (disk v m) (one_call a P))) ≡ write_ruled i b (write_notes (disk v m) (one_call a P))
  unfolding is_finished lost_or_clashing
  write-ruled = go (first_of (write_rules v a P m)) refl
    where
      by_verdict : (e : WritePasses v a P m) (u : Verdict) → Is v a u
          → ruled_all i b (list_notes (disk v m) (steps_of (disk v m) (one_call a P))) ≡ write_ruled i b (write_notes (disk v m) (one_call a P))
      by_verdict e (whole Q) is = same_by (stages P) (read_by v bytes a P plain m e (whole Q) is) refl (whole_runs v bytes a P plain m e Q is) same_whole
      by_verdict e (doubtful d Q) is =
          same_by (mend ∷ stages P) (read_by v bytes a P plain m e (doubtful d Q) is) (after_doubt P d) (doubtful_runs v bytes a P plain m e d Q is) (same_doubtful d)
      by_verdict e lost is =
          let n : (map_outcome mirror v a (read (length P)) m).0 ≡ 6 = read_by v bytes a P plain m e lost is in
          same_by [] n refl (ap (λ (k : ℕ). k ∷ []) n) (lone 6 refl)
      by_verdict e clashing is =
          let n : (map_outcome mirror v a (read (length P)) m).0 ≡ 7 = read_by v bytes a P plain m e clashing is in
          same_by [] n refl (ap (λ (k : ℕ). k ∷ []) n) (lone 7 refl)

      go : (o : Option ℕ) → first_of (write_rules v a P m) ≡ o
          → ruled_all i b (list_notes (disk v m) (steps_of (disk v m) (one_call a P))) ≡ write_ruled i b (write_notes (disk v m) (one_call a P))
      go none e = by_verdict e (one_verdict v bytes a P plain m e).0 (one_verdict v bytes a P plain m e).1
      go (some k) e =
          let n : (map_outcome mirror v a (read (length P)) m).0 ≡ k = ap (λ (r : ℕ × (Triple × List ℕ)). r.0) (read_refused v bytes a P plain m k e) in
          let keeps : (c : Call) → marks c k ≡ Keeps = λ c. rules-keep v bytes a P plain m c k e in
          same_by [] n (after-refusal P k (keeps_unfinished mend k (keeps mend))) (ap (λ (k : ℕ). k ∷ []) n) (lone k (keeps (read (length P)) ∙ sym (keeps mend)))

step_ruled : (i : ℕ) (b : Bool) (d : Disk) → AnyBytes d.images → (e : WriteStep) → StepBytes e → ruled_all i b (list_notes d (steps_of d e)) ≡ write_ruled i b (write_notes d e)
step_ruled i b d bytes (other e) h = refl
step_ruled i b d bytes (one_call a P) h = write-ruled i b d.images bytes a P h d.map

-- ---- the images still hold bytes

bytes_call : (v : Triple) → AnyBytes v → (a : Args) (c : Call) → LentBytes c → (m : List ℕ) → AnyBytes (map_outcome mirror v a c m).1.0
unfolding outcome leaves_call
bytes_call v b a c l m = go (map_refusal v a m) refl
  where
    go : (o : Option ℕ) → map_refusal v a m ≡ o → AnyBytes (map_outcome mirror v a c m).1.0
    go none e =
        subst (λ (r : ℕ × (Triple × List ℕ)). AnyBytes r.1.0) (sym (marked_done mirror v a c m e refl refl))
        (leaves_bytes mirror mirror_sound a.volume v b (call a c finished) (λ z. refl, l, tt))
    go (some k) e = subst (λ (r : ℕ × (Triple × List ℕ)). AnyBytes r.1.0) (sym (marked_refused mirror v a c m e)) b

bytes_calls : (a : Args) (P : List ℕ) → Bytes P → (cs : List Call) → AllWriting P cs → (d : Triple × List ℕ) → AnyBytes d.0 → AnyBytes (calls_leave mirror a cs d).0
bytes_calls a P p [] w d b = b
bytes_calls a P p (c ∷ cs) w d b = bytes_calls a P p cs w.1 (map_outcome mirror d.0 a c d.1).1 (bytes_call d.0 b a c (writing_lent P p c w.0) d.1)

bytes_step : (d : Disk) → AnyBytes d.images → (e : WriteStep) → StepBytes e → AnyBytes (write_step_leaves d e).images
unfolding write_outcome
bytes_step d b (other (on_sector a c)) h = bytes_call d.images b a c h d.map
bytes_step d b (other (starts_map n)) h = b
bytes_step d b (other looks_only) h = b
bytes_step d b (other (writes_images v)) h = h
bytes_step d b (one_call a P) h =
    bytes_calls a P h (write_calls d.images a P d.map) (calls_writing d.images a P d.map) (d.images, d.map) b

-- ---- over lists

list_ruled : (i : ℕ) (b : Bool) (d : Disk) → AnyBytes d.images → (es : List WriteStep) → AllStepBytes es → ruled_all i b (list_notes d (steps d es)) ≡ all_ruled i b (all_notes d es)
list_ruled i b d bytes [] h = refl
list_ruled i b d bytes (e ∷ es) h =
    let rest : List Step = steps (write_step_leaves d e) es in
    ap (ruled_all i b) (notes_both (steps_of d e) rest d)
    ∙ ruled_both i (list_notes d (steps_of d e)) (list_notes (list_leaves d (steps_of d e)) rest) b
    ∙ ap (λ (x : Disk). ruled_all i (ruled_all i b (list_notes d (steps_of d e))) (list_notes x rest)) (step_leaves_lem d e)
    ∙ ap (λ (x : Bool). ruled_all i x (list_notes (write_step_leaves d e) rest)) (step_ruled i b d bytes e h.0)
    ∙ list_ruled i (write_ruled i b (write_notes d e)) (write_step_leaves d e) (bytes_step d bytes e h.0) es h.1

pub write_lists : WriteLists
write_lists = record {
  as_steps = as_steps;
  map_rule = λ n v bytes es h i.
      ap (λ (x : Disk). bit i x.map) (as_steps (disk v (started n)) es)
      ∙ map_rule n v (steps (disk v (started n)) es) i
      ∙ list_ruled i (ltb i n) (disk v (started n)) bytes es h;
  clear_is_whole = λ vol v b es t i lt z.
      let d : Disk = disk v (started vol.count) in
      subst (λ (x : Disk). WholeAt vol x.images i) (sym (as_steps d es))
      (clear_is_whole vol v b (steps d es) (all_take vol d es t) i lt (ap (λ (x : Disk). bit i x.map) (sym (as_steps d es)) ∙ z));
}
