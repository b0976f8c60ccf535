-- What the volume's number 0 leaves as it was before there were numbers (change request S-2): each call with a key is document 01's, whose
-- tweak is the address alone, but for refusal 14 (change request S-7), which the rules on both sides have. One statement, proved as
-- `as_before`.
use Rattle.std.specs.Prelude.{◌≡◌, List, ℕ, length}
use Rattle.mode.specs.Sealing.{Key, Triple}
use Rattle.mode.specs.Scheme.{on, scheme}
use Rattle.mode.specs.TweakFacts.{tweak_before, sealed_before}
use Rattle.answers.specs.Rules.{first_of, parts_rules, open_rules, settle}
use Rattle.verdict.specs.Judging.{verdict_outcome}
use Rattle.verdict.specs.Verdict.{judge, place_of, other_side, side_of, opened}
use Rattle.sector.specs.Calls.{open_outcome, seal_call, judge_call, open_call, rebuild_call}

-- open and rebuild of before; f says what is written of the plaintext found
abbrev pub open_before : (List ℕ → List ℕ) → Key → ℕ → ℕ → List ℕ → List ℕ → List ℕ → ℕ × List ℕ
open_before f k address d x g out =
    settle
    (first_of (open_rules k (length x) (length out) (length g) d))
    (open_outcome f (opened (scheme k) (tweak_before address) (side_of d) g x) out) out

pub record AsBefore : Type 0 where
  pub seals : (k : Key) (address : ℕ) (P : List ℕ) (out : Triple)
      → seal_call k 0 address P out
      ≡ settle (first_of (parts_rules k (length P) (length out.local) (length out.remote) (length out.tag))) (0, sealed_before k address P) out
  pub judges : (k : Key) (address : ℕ) (t : Triple) (out : List ℕ)
      → judge_call k 0 address t out
      ≡ settle (first_of (parts_rules k (length t.local) (length t.remote) (length out) (length t.tag)))
      (verdict_outcome (judge (scheme k) (tweak_before address) t) out) out
  pub opens : (k : Key) (address d : ℕ) (x g out : List ℕ) → open_call k 0 address d x g out ≡ open_before (λ P. P) k address d x g out
  pub rebuilds : (k : Key) (address d : ℕ) (x g out : List ℕ)
      → rebuild_call k 0 address d x g out ≡ open_before (λ P. on (sealed_before k address P) (place_of (other_side (side_of d)))) k address d x g out
