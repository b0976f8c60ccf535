-- The calls' answers where the checks refuse, and where they pass. Assumes nothing.
use mathlib.Core.Path.{◌≡◌}
use mathlib.Core.Bool.{true, not, and-eq-true_iff}
use mathlib.Core.List.{List}
use mathlib.Core.Option.{none, some}
use Prim.Native.Nat.{ℕ, ◌≤◌}
use lib.Dec.{eqb, leb}
use lib.ListN.{length}
use borrow.Author.Tests.{not-false, eqb-true, leb-true}
use Rattle.answers.specs.Rules.{first_of, is_count, map_words, map_rules, count_and_map_rules}
use Rattle.answers.proofs.Rules.{cond_none, only_rule, settle_some, settle_none}
use Rattle.map.specs.Map.{started, suspects, start_outcome, count_outcome}

-- ---- the outcomes

module _ (n : ℕ) (m : List ℕ) where
  pub start_refuses : (k : ℕ) → first_of (count_and_map_rules n (length m)) ≡ some k → start_outcome n m ≡ (k, m)
  unfolding start_outcome
  start_refuses k e = settle_some (0, started n) m e

  pub starts : first_of (count_and_map_rules n (length m)) ≡ none → start_outcome n m ≡ (0, started n)
  unfolding start_outcome
  starts e = settle_none (0, started n) m e

  pub count_refuses : (before k : ℕ) → first_of (count_and_map_rules n (length m)) ≡ some k → count_outcome n m before ≡ (k, before)
  unfolding count_outcome
  count_refuses before k e = settle_some (0, suspects n m) before e

  pub counts : (before : ℕ) → first_of (count_and_map_rules n (length m)) ≡ none → count_outcome n m before ≡ (0, suspects n m)
  unfolding count_outcome
  counts before e = settle_none (0, suspects n m) before e

-- ---- for the code

count_most : (n : ℕ) → is_count n ≡ true → n ≤ 65536
unfolding is_count
count_most n e = leb-true n 65536 ((and-eq-true_iff (leb 1 n) (leb n 65536)).0 e).1

-- where the checks refuse nothing
pub checked : (n w : ℕ) → first_of (count_and_map_rules n w) ≡ none → (n ≤ 65536) × (w ≡ map_words n)
checked n w e =
    let (count, words) = cond_none (not (is_count n)) 8 (first_of (map_rules n w)) e in
    (count_most n (not-false (is_count n) count), eqb-true w (map_words n) (not-false (eqb w (map_words n)) (only_rule (not (eqb w (map_words n))) 13 words)))
