-- The calls with a key that its own rules refuse. Assumes nothing.
use mathlib.Core.Path.{◌≡◌}
use mathlib.Core.List.{List, ◌++◌}
use mathlib.Core.Option.{some}
use Prim.Native.Nat.{ℕ}
use lib.ListN.{length}
use Rattle.mode.specs.Sealing.{Key, Triple, tweak, sealed}
use Rattle.mode.specs.Scheme.{on, scheme}
use Rattle.answers.specs.Rules.{Rule, first_of, key_rules, size_rules, length_rules, side_rules, pair_rules, parts_rules, open_rules}
use Rattle.answers.proofs.Rules.{settle_some}
use Rattle.verdict.specs.Verdict.{judge, place_of, other_side, side_of, opened}
use Rattle.verdict.specs.Judging.{verdict_outcome}
use Rattle.sector.specs.Calls.{open_outcome, seal_call, judge_call, open_call, rebuild_call}

module _ (k : Key) (r : ℕ) (e : (rest : List Rule) → first_of (key_rules k ++ rest) ≡ some r) where
  parts_refused : (s x y g : ℕ) → first_of (parts_rules k s x y g) ≡ some r
  parts_refused s x y g = e (pair_rules s x y ++ length_rules g 16)

  open_refused : (s out g d : ℕ) → first_of (open_rules k s out g d) ≡ some r
  open_refused s out g d = e (size_rules s ++ (length_rules out s ++ (length_rules g 16 ++ side_rules d)))

  pub seal_key_refused : (volume address : ℕ) (P : List ℕ) (out : Triple) → seal_call k volume address P out ≡ (r, out)
  unfolding seal_call
  seal_key_refused volume address P out =
      settle_some (0, sealed k volume address P) out (parts_refused (length P) (length out.local) (length out.remote) (length out.tag))

  pub judge_key_refused : (volume address : ℕ) (t : Triple) (out : List ℕ) → judge_call k volume address t out ≡ (r, out)
  unfolding judge_call
  judge_key_refused volume address t out =
      settle_some (verdict_outcome (judge (scheme k) (tweak volume address) t) out) out
      (parts_refused (length t.local) (length t.remote) (length out) (length t.tag))

  module _ (volume address d : ℕ) (x g out : List ℕ) where
    pub open_key_refused : open_call k volume address d x g out ≡ (r, out)
    unfolding open_call
    open_key_refused =
        settle_some (open_outcome (λ P. P) (opened (scheme k) (tweak volume address) (side_of d) g x) out) out (open_refused (length x) (length out) (length g) d)

    pub rebuild_key_refused : rebuild_call k volume address d x g out ≡ (r, out)
    unfolding rebuild_call
    rebuild_key_refused =
        settle_some (open_outcome (λ P. on (sealed k volume address P) (place_of (other_side (side_of d)))) (opened (scheme k) (tweak volume address) (side_of d) g x) out) out
        (open_refused (length x) (length out) (length g) d)
