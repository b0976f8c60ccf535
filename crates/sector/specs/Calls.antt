-- Document 01's calls on a sector: for every input, the number of the answer and every lent byte afterwards. Assumes nothing: these are
-- definitions.
use Rattle.std.specs.Prelude.{List, ℕ, length}
use Rattle.std.proofs.Math.Option.{Option, none, some}
use Rattle.block.specs.Bytes.{xor_bytes}
use Rattle.mode.specs.Sealing.{Key, Triple, tweak, sealed}
use Rattle.mode.specs.Scheme.{on, scheme}
use Rattle.verdict.specs.Verdict.{judge, place_of, other_side, side_of, opened}
use Rattle.answers.specs.Rules.{first_of, pair_rules, parts_rules, open_rules, settle}
use Rattle.verdict.specs.Judging.{verdict_outcome}

-- ---- seal, with the three outputs before

unfoldable pub seal_call : Key → ℕ → ℕ → List ℕ → Triple → ℕ × Triple
seal_call k volume address P out =
    settle
    (first_of (parts_rules k (length P) (length out.local) (length out.remote) (length out.tag)))
    (0, sealed k volume address P) out

-- ---- judge, with the output before

unfoldable pub judge_call : Key → ℕ → ℕ → Triple → List ℕ → ℕ × List ℕ
judge_call k volume address t out =
    settle
    (first_of (parts_rules k (length t.local) (length t.remote) (length out) (length t.tag)))
    (verdict_outcome (judge (scheme k) (tweak volume address) t) out) out

-- ---- open and rebuild, of the side with the number d: 0 is local, 1 remote

-- f says what is written of the plaintext found
abbrev pub open_outcome : (List ℕ → List ℕ) → Option (List ℕ) → List ℕ → ℕ × List ℕ
open_outcome f none out = (5, out)
open_outcome f (some P) out = (0, f P)

abbrev pub open_with : (List ℕ → List ℕ) → Key → ℕ → ℕ → ℕ → List ℕ → List ℕ → List ℕ → ℕ × List ℕ
open_with f k volume address d x g out =
    settle
    (first_of (open_rules k (length x) (length out) (length g) d))
    (open_outcome f (opened (scheme k) (tweak volume address) (side_of d) g x) out) out

unfoldable pub open_call : Key → ℕ → ℕ → ℕ → List ℕ → List ℕ → List ℕ → ℕ × List ℕ
open_call = open_with (λ P. P)

unfoldable pub rebuild_call : Key → ℕ → ℕ → ℕ → List ℕ → List ℕ → List ℕ → ℕ × List ℕ
rebuild_call k volume address d = open_with (λ P. on (sealed k volume address P) (place_of (other_side (side_of d)))) k volume address d

-- ---- combine

unfoldable pub combine_call : List ℕ → List ℕ → List ℕ → ℕ × List ℕ
combine_call x y out = settle (first_of (pair_rules (length x) (length y) (length out))) (0, xor_bytes x y) out
