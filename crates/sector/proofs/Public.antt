-- What the calls answer where their checks pass. Assumes nothing.
use mathlib.Core.Path.{◌≡◌}
use mathlib.Core.List.{List}
use mathlib.Core.Option.{none}
use Prim.Native.Nat.{ℕ}
use lib.ListN.{length}
use Rattle.block.specs.Bytes.{xor_bytes}
use Rattle.mode.specs.Scheme.{scheme}
use Rattle.mode.specs.Sealing.{Key, Triple, tweak, sealed}
use Rattle.answers.specs.Rules.{first_of, pair_rules, parts_rules}
use Rattle.answers.proofs.Rules.{settle_none}
use Rattle.verdict.specs.Judging.{verdict_outcome}
use Rattle.verdict.specs.Verdict.{judge}
use Rattle.sector.specs.Calls.{seal_call, judge_call, combine_call}

pub judge_passes : (k : Key) (volume address : ℕ) (t : Triple) (out : List ℕ) → first_of (parts_rules k (length t.local) (length t.remote) (length out) (length t.tag)) ≡ none
    → judge_call k volume address t out ≡ verdict_outcome (judge (scheme k) (tweak volume address) t) out
unfolding judge_call
judge_passes k volume address t out passed = settle_none _ out passed

pub seal_passes : (k : Key) (volume address : ℕ) (P : List ℕ) (out : Triple) → first_of (parts_rules k (length P) (length out.local) (length out.remote) (length out.tag)) ≡ none
    → seal_call k volume address P out ≡ (0, sealed k volume address P)
unfolding seal_call
seal_passes k volume address P out passed = settle_none _ out passed

pub combine_passes : (x y out : List ℕ) → first_of (pair_rules (length x) (length y) (length out)) ≡ none → combine_call x y out ≡ (0, xor_bytes x y)
unfolding combine_call
combine_passes x y out passed = settle_none _ out passed
