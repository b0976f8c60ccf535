-- Under a key whose hash key is not zero no call answers 14. Assumes nothing.
use mathlib.Core.Path.{◌≡◌, refl, sym, ap, ◌∙◌}
use mathlib.Core.Bool.{Bool, true, false}
use mathlib.Core.List.{List, ◌++◌}
use mathlib.Core.Option.{Option, none, some}
use Prim.Native.Nat.{ℕ}
use native.Mathlib.Omega.{arith}
use lib.ListN.{length}
use Rattle.block.proofs.Lists.{clash}
use Rattle.mode.specs.Sealing.{Key, Triple, tweak, sealed}
use Rattle.mode.specs.Scheme.{on, is_key, scheme}
use Rattle.answers.specs.Rules.{Rule, first_of, settle, Args, args, Volume, volume_of, is_shape, is_zero_hash, key_rules, size_rules, length_rules, side_rules, shape_rules, number_rules, list_rules, map_rules, pair_rules}
use Rattle.answers.proofs.Keys.{keys_refused}
use Rattle.answers.proofs.Numbers.{doubt_least}
use Rattle.verdict.specs.Verdict.{Verdict, whole, doubtful, lost, clashing, judge, place_of, other_side, side_of, opened}
use Rattle.verdict.specs.Judging.{verdict_outcome}
use Rattle.sector.specs.Calls.{open_outcome, open_with, seal_call, judge_call, open_call, rebuild_call}
use Rattle.history.specs.Volume.{Call, read, lengths, late, sealing, sector, mirror}
use Rattle.history.proofs.Options.{some_inj}
use Rattle.suspects.specs.Marks.{is_finished, map_outcome, map_survey_refusal, map_survey_outcome}
use Rattle.suspects.specs.Calls.{call_order}
use Rattle.suspects.proofs.Marking.{Every, every_first, every_own}
use Rattle.suspects.proofs.Calls.{map_calls}
use Rattle.writes.specs.Write.{write_outcome}
use Rattle.mirror.specs.Survey.{survey_result}
use Rattle.mirror.specs.ZeroHash.{NeverAnswers}
use Rattle.mirror.proofs.SurveyNumbers.{survey_numbers}

abbrev Not14 : ℕ → Type 0
Not14 n = n ≡ 14 → ⊥

-- ---- the rules and answers behind the key's

verdict_not : (w : Verdict) (out : List ℕ) → Not14 (verdict_outcome w out).0
verdict_not (whole P) out e = omega arith
verdict_not (doubtful d P) out e = omega (arith, doubt_least d)
verdict_not lost out e = omega arith
verdict_not clashing out e = omega arith

opened_not : (f : List ℕ → List ℕ) (o : Option (List ℕ)) (out : List ℕ) → Not14 (open_outcome f o out).0
opened_not f none out e = omega arith
opened_not f (some P) out e = omega arith

-- ---- the calls

module _ (k : Key) (other : is_zero_hash k ≡ false) where
  rules_not : (rest : List Rule) → Every Not14 rest → first_of (key_rules k ++ rest) ≡ some 14 → ⊥
  rules_not rest q h = go (is_key k) refl
    where
      go : (b : Bool) → is_key k ≡ b → ⊥
      go true e = every_first Not14 rest q 14 (sym (keys_refused.goes_on k rest e other) ∙ h) refl
      go false e = let z : ◌≡◌ {A = ℕ} 1 14 = some_inj (sym (keys_refused.another_length k rest e) ∙ h) in omega arith

  settled_not : {A : Type 0} (rest : List Rule) → Every Not14 rest → (after : ℕ × A) (before : A) → Not14 after.0 → Not14 (settle (first_of (key_rules k ++ rest)) after before).0
  settled_not {A} rest q after before n = go (first_of (key_rules k ++ rest)) refl
    where
      go : (o : Option ℕ) → first_of (key_rules k ++ rest) ≡ o → Not14 (settle o after before).0
      go none e = n
      go (some m) e = λ d. rules_not rest q (e ∙ ap some d)

  parts_rest : (s x y g : ℕ) → Every Not14 (pair_rules s x y ++ length_rules g 16)
  parts_rest s x y g = (λ e. omega arith, (λ e. omega arith, (λ e. omega arith, (λ e. omega arith, tt))))

  -- on a volume
  module _ (v : Triple) (volume s n i : ℕ) (c : Call) (m : List ℕ) where
    abbrev a : Args
    a = args k volume s n i

    abbrev call_rest : List Rule
    call_rest = ((size_rules s ++ shape_rules (is_shape s n v)) ++ (map_rules n (length m) ++ number_rules n i)) ++ (lengths a c ++ late (sealing mirror a) i (sector v a) c)

    call_rest_not : Every Not14 call_rest
    call_rest_not = (
      λ e. omega arith,
      (
        λ e. omega arith,
        (
          λ e. omega arith,
          (
            λ e. omega arith,
            every_own Not14 mirror v a c (λ e. omega arith) (λ e. omega arith) (λ e. omega arith) (λ e. omega arith),
          ),
        ),
      ),
    )

    call_not : Not14 (map_outcome mirror v a c m).0
    unfolding is_finished
    call_not d = go (first_of (call_order v a c m)) refl
      where
        go : (o : Option ℕ) → first_of (call_order v a c m) ≡ o → ⊥
        go none e = clash (sym (ap is_finished d) ∙ map_calls.finishes v a c m e) refl
        go (some r) e =
            let z : r ≡ 14 = sym (ap (λ (x : ℕ × (Triple × List ℕ)). x.0) (map_calls.refuses v a c m r e)) ∙ d in
            rules_not call_rest call_rest_not (e ∙ ap some z)

  module _ (v : Triple) (volume s n : ℕ) (m list counts : List ℕ) where
    abbrev vol : Volume
    vol = volume_of k volume s n

    survey_not : Not14 (survey_result (map_survey_outcome v vol m list) counts).0
    survey_not d = go (map_survey_refusal v vol m (length list)) refl
      where
        go : (o : Option ℕ) → map_survey_refusal v vol m (length list) ≡ o → ⊥
        go none e = let z : ◌≡◌ {A = ℕ} 0 14 = sym (survey_numbers.answers v vol m list counts e) ∙ d in omega arith
        go (some r) e =
            let z : r ≡ 14 = sym (ap (λ (x : ℕ × (List ℕ × List ℕ)). x.0) (survey_numbers.refuses v vol m list counts r e)) ∙ d in
            rules_not ((size_rules s ++ shape_rules (is_shape s n v)) ++ (map_rules n (length m) ++ list_rules n (length list)))
            (λ e. omega arith, (λ e. omega arith, (λ e. omega arith, (λ e. omega arith, tt)))) (e ∙ ap some z)

  open_not : (f : List ℕ → List ℕ) (volume address d : ℕ) (x g out : List ℕ) → Not14 (open_with f k volume address d x g out).0
  open_not f volume address d x g out =
      settled_not (size_rules (length x) ++ (length_rules (length out) (length x) ++ (length_rules (length g) 16 ++ side_rules d)))
      (λ e. omega arith, (λ e. omega arith, (λ e. omega arith, (λ e. omega arith, tt))))
      (open_outcome f (opened (scheme k) (tweak volume address) (side_of d) g x) out) out (opened_not f (opened (scheme k) (tweak volume address) (side_of d) g x) out)

  pub never_14 : NeverAnswers k 14
  unfolding seal_call judge_call open_call rebuild_call write_outcome
  never_14 = record {
    seals = λ volume address P out.
        settled_not (pair_rules (length P) (length out.local) (length out.remote) ++ length_rules (length out.tag) 16)
        (parts_rest (length P) (length out.local) (length out.remote) (length out.tag)) (0, sealed k volume address P) out (λ e. omega arith);
    judges = λ volume address t out.
        settled_not (pair_rules (length t.local) (length t.remote) (length out) ++ length_rules (length t.tag) 16)
        (parts_rest (length t.local) (length t.remote) (length out) (length t.tag))
        (verdict_outcome (judge (scheme k) (tweak volume address) t) out) out (verdict_not (judge (scheme k) (tweak volume address) t) out);
    opens = λ volume address d x g out. open_not (λ P. P) volume address d x g out;
    rebuilds = λ volume address d x g out. open_not (λ P. on (sealed k volume address P) (place_of (other_side (side_of d)))) volume address d x g out;
    calls = call_not;
    reads = λ v volume s n i out m d.
        call_not v volume s n i (read (length out)) m (ap (λ (x : ℕ × (Triple × List ℕ)). x.0) (map_calls.read_same v (args k volume s n i) out m) ∙ d);
    writes = λ v volume s n i P m. call_not v volume s n i (read (length P)) m;
    surveys = survey_not;
  }
