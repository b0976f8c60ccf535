-- What a call refuses and answers. Assumes nothing.
use mathlib.Core.Path.{◌≡◌, sym, ◌∙◌, ap}
use mathlib.Core.Bool.{true}
use mathlib.Core.List.{List, ◌++◌}
use mathlib.Core.Option.{Option, none, some}
use Prim.Native.Nat.{ℕ, ◌<◌, ◌*◌}
use native.Mathlib.Nat.{eq_of_mul-eq-mul_left}
use native.Mathlib.Omega.{arith}
use lib.Dec.{leb}
use lib.ListN.{length}
use borrow.Author.Tests.{leb-false}
use Rattle.block.specs.Bytes.{Plain}
use Rattle.mode.specs.Sealing.{Triple}
use Rattle.mode.specs.Scheme.{local, tag}
use Rattle.answers.specs.Rules.{number_rules, Rule, first_of, Args, is_shape, volume_rules, sector_rules}
use Rattle.history.specs.Answers.{refused, reply}
use Rattle.history.specs.Volume.{Call, blank, first, second, third, mend, read, lengths, early, late, result, sector, sealing, refusal, answer, Schemes}
use Rattle.history.specs.Power.{Images, LentBytes}
use Rattle.history.specs.HistoryFrom.{AnyBytes}
use Rattle.answers.proofs.Rules.{only_rule, first_none, first_some_lem, none_left, none_right}
use Rattle.answers.proofs.Shapes.{shape_facts}
use Rattle.answers.proofs.Passing.{Common, common, sector_pass, length_due}

-- ---- early refusals

-- What passing them shows. Other proofs go by these facts: here only `passed` reads the lists of rules.
pub record Passed (v : Triple) (a : Args) (c : Call) : Type 0 where
  pub common : Common v a.volume
  pub number : a.number < a.volume.count
  pub lengths : first_of (lengths a c) ≡ none

pub passed : (v : Triple) (a : Args) (c : Call) → first_of (early v a c) ≡ none → Passed v a c
unfolding early
passed v a c e =
    let every : List Rule = volume_rules a.volume.key a.volume.size (is_shape a.volume.size a.volume.count v) in
    let nine : List Rule = number_rules a.volume.count a.number in
    let e' : first_of (every ++ nine) ≡ none = none_left (lengths a c) (every ++ nine) e in
    record {
      common = common v a.volume (none_left nine every e');
      number = leb-false a.volume.count a.number (only_rule (leb a.volume.count a.number) 9 (none_right nine every e'));
      lengths = none_right (lengths a c) (every ++ nine) e;
    }

pub passes_early : (v : Triple) (a : Args) (c : Call) → Passed v a c → first_of (early v a c) ≡ none
unfolding early
passes_early v a c p =
    first_none (lengths a c) (sector_rules a.volume.key a.volume.size a.volume.count (is_shape a.volume.size a.volume.count v) a.number) (sector_pass v a p.common p.number) ∙ p.lengths

-- a stage's plaintext is s bytes
abbrev pub Sized : ℕ → Call → Type 0
Sized s blank = Unit {0}
Sized s (first P) = Plain s P
Sized s (second P) = Plain s P
Sized s (third P) = Plain s P
Sized s mend = Unit {0}
Sized s (read o) = Unit {0}

pub sized : (a : Args) (c : Call) → first_of (lengths a c) ≡ none → LentBytes c → Sized a.volume.size c
sized a blank e l = tt
sized a (first P) e l = record { long = length_due (length P) a.volume.size e; bytes = l }
sized a (second P) e l = record { long = length_due (length P) a.volume.size e; bytes = l }
sized a (third P) e l = record { long = length_due (length P) a.volume.size e; bytes = l }
sized a mend e l = tt
sized a (read o) e l = tt

-- ---- the shape of three images

pub shape_images : (s n : ℕ) (v : Triple) → is_shape s n v ≡ true → AnyBytes v → Images s n v
shape_images s n v e b = record { images = λ p. record { long = (shape_facts s n v e).1 p; bytes = b p } }

-- The images force s and n: of the calls that are not refused, only the key could be another than the volume's.
pub forced : (s n : ℕ) (v : Triple) → Images s n v → (s' n' : ℕ) → is_shape s' n' v ≡ true → (s' ≡ s) × (n' ≡ n)
forced s n v I s' n' e =
    let f = shape_facts s' n' v e in
    let t : length v.tag ≡ n' * 16 = f.1 tag in
    let u : length v.tag ≡ n * 16 = (I.images tag).long in
    let m : n' ≡ n = omega arith in
    (eq_of_mul-eq-mul_left n' f.0 s' s (sym (f.1 local) ∙ (I.images local).long ∙ ap (λ (k : ℕ). k * s) (sym m)), m)

-- ---- refusals and answers

module _ (seals : Schemes) (v : Triple) (a : Args) (c : Call) where
  pub refusal_none : refusal seals v a c ≡ none → (first_of (early v a c) ≡ none) × (first_of (late (sealing seals a) a.number (sector v a) c) ≡ none)
  unfolding refusal
  refusal_none e =
      let own : List Rule = late (sealing seals a) a.number (sector v a) c in
      (none_left own (early v a c) e, none_right own (early v a c) e)

  -- past the early refusals it is the late ones that count
  pub refusal_late : first_of (early v a c) ≡ none → refusal seals v a c ≡ first_of (late (sealing seals a) a.number (sector v a) c)
  unfolding refusal
  refusal_late e = first_none (late (sealing seals a) a.number (sector v a) c) (early v a c) e

  pub refusal_early : (k : ℕ) → first_of (early v a c) ≡ some k → refusal seals v a c ≡ some k
  unfolding refusal
  refusal_early k e = first_some_lem (late (sealing seals a) a.number (sector v a) c) (early v a c) e

  -- what an accepted call passed
  pub accepted_passed : refusal seals v a c ≡ none → Passed v a c
  accepted_passed e = passed v a c (refusal_none e).0

  -- the images are those of its s and n
  pub accepted_images : AnyBytes v → refusal seals v a c ≡ none → Images a.volume.size a.volume.count v
  accepted_images b e = shape_images a.volume.size a.volume.count v (accepted_passed e).common.shape b

  pub answer_refused : (k : ℕ) → refusal seals v a c ≡ some k → answer seals v a c ≡ refused k
  unfolding answer
  answer_refused k e = ap (λ (r : Option ℕ). reply r (result (sealing seals a) a.number (sector v a) c)) e

  pub answer_late : first_of (early v a c) ≡ none → answer seals v a c ≡ reply (first_of (late (sealing seals a) a.number (sector v a) c)) (result (sealing seals a) a.number (sector v a) c)
  unfolding answer
  answer_late e = ap (λ (r : Option ℕ). reply r (result (sealing seals a) a.number (sector v a) c)) (refusal_late e)

  pub early_answer : (k : ℕ) → first_of (early v a c) ≡ some k → answer seals v a c ≡ refused k
  early_answer k e = answer_refused k (refusal_early k e)
