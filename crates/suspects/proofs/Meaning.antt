-- A call marks its sector's bit by what fits. Assumes nothing but the laws of the sealing.
use mathlib.Core.Path.{◌≡◌, refl, sym, ap, ◌∙◌}
use mathlib.Core.Bool.{Bool, cond}
use mathlib.Core.List.{List}
use Prim.Native.Nat.{ℕ}
use lib.ListN.{length}
use borrow.Author.Tests.{eq-eqb}
use Rattle.bits.specs.Bits.{bit}
use Rattle.mode.specs.Sealing.{Triple}
use Rattle.answers.specs.Rules.{Args, map_words}
use Rattle.history.specs.Meaning.{CallMeans}
use Rattle.history.specs.Volume.{Call, blank, first, second, third, mend, read, mirror, outcome, read_outcome}
use Rattle.history.proofs.Meaning.{calls_mean}
use Rattle.suspects.specs.declared.Mark.{Mark}
use Rattle.suspects.specs.Marks.{is_finished, lost_or_clashing, marks, map_outcome}
use Rattle.suspects.specs.Calls.{turned}
use Rattle.suspects.specs.Meaning.{bit_after, bit_read, MarksMean, AllMarksMean}
use Rattle.suspects.proofs.Marking.{doubt_read, doubt_mended}
use Rattle.suspects.proofs.Calls.{map_calls}

-- ---- the sector's own bit

module _ (v : Triple) (a : Args) (m : List ℕ) (w : length m ≡ map_words a.volume.count) where
  abbrev before : Bool
  before = bit a.number m

  -- after a call that answers k without a map
  bit_call : (c : Call) {k : ℕ} {x : Triple} → outcome mirror v a c ≡ (k, x) → bit_after v a m c ≡ turned (marks c k) before
  bit_call c e =
      map_calls.bits v a c m a.number
      ∙ ap (λ (b : Bool). cond b (turned (marks c (map_outcome mirror v a c m).0) before) before) (eq-eqb a.number a.number refl)
      ∙ ap (λ (r : ℕ × (Triple × List ℕ)). turned (marks c r.0) before) (map_calls.as_without v a c m w)
      ∙ ap (λ (r : ℕ × Triple). turned (marks c r.0) before) e

  module _ (means : CallMeans v a) where
    bit-read : (out : List ℕ) {k : ℕ} {x : List ℕ} → read_outcome mirror v a out ≡ (k, x) → bit_read v a m out ≡ turned (marks (read (length out)) k) before
    bit-read out e =
        sym (ap (λ (r : ℕ × (Triple × List ℕ)). bit a.number r.1.1) (map_calls.read_same v a out m))
        ∙ bit_call (read (length out)) (means.read_leaves out ∙ ap (λ (r : ℕ × List ℕ). (r.0, v)) e)

    mark_means : MarksMean v a m
    unfolding is_finished lost_or_clashing
    mark_means = record {
      read_whole = λ out p P i. bit-read out ((means.read_whole out p P).1 i);
      read_doubtful = λ out p d P i. bit-read out ((means.read_doubtful out p d P).1 i) ∙ ap (λ (x : Mark). turned x before) (doubt_read (length out) d);
      read_lost = λ out p i. bit-read out ((means.read_lost out p).1 i);
      read_clashing = λ out p i. bit-read out ((means.read_clashing out p).1 i);
      mend_whole = λ p P i. bit_call mend ((means.mend_whole p).1 (P, i));
      mend_doubtful = λ p d P i. bit_call mend (means.mend_writes p d P i) ∙ ap (λ (x : Mark). turned x before) (doubt_mended d);
      mend_lost = λ p i. bit_call mend ((means.mend_lost p).1 i);
      mend_clashing = λ p i. bit_call mend ((means.mend_clashing p).1 i);
      blank_clears = λ p. bit_call blank (means.blank_writes p);
      first_sets = λ P p Q i. bit_call (first P) (means.first_writes P p Q i);
      second_sets = λ P p f. bit_call (second P) (means.second_writes P p f);
      third_clears = λ P p f. bit_call (third P) (means.third_writes P p f);
      first_keeps = λ P p n. bit_call (first P) ((means.first_refuses P p).1 n);
      second_keeps = λ P p n. bit_call (second P) ((means.second_refuses P p).1 n);
      third_keeps = λ P p n. bit_call (third P) ((means.third_refuses P p).1 n);
    }

pub marks_mean : AllMarksMean
marks_mean v b a m w = mark_means v a m w (calls_mean v b a)
