-- A key that is refused, in every call. Assumes nothing.
use mathlib.Core.Path.{◌≡◌, refl, ap}
use mathlib.Core.Bool.{Bool, false}
use mathlib.Core.List.{List, ◌++◌}
use mathlib.Core.Option.{some}
use Prim.Native.Nat.{ℕ}
use lib.ListN.{length}
use borrow.Author.Tests.{eqb-true}
use Rattle.mode.specs.Sealing.{Key, Triple, hash_key}
use Rattle.mode.proofs.Laws.{one_tag}
use Rattle.answers.specs.Rules.{Rule, first_of, args, volume_of, is_shape, is_zero_hash, key_rules, size_rules, shape_rules, number_rules, list_rules, map_rules, volume_rules}
use Rattle.answers.proofs.Keys.{keys_refused}
use Rattle.sector.proofs.KeyRefused.{seal_key_refused, judge_key_refused, open_key_refused, rebuild_key_refused}
use Rattle.history.specs.Volume.{read, mirror}
use Rattle.report.specs.Survey.{Report}
use Rattle.suspects.specs.Marks.{is_finished, map_refusal}
use Rattle.suspects.proofs.Calls.{marked_refused, read_refused, survey_refused}
use Rattle.writes.proofs.Following.{after-refusal, wrote}
use Rattle.writes.proofs.NothingKept.{nothing_kept}
use Rattle.mirror.specs.Survey.{survey_result}
use Rattle.mirror.specs.ZeroHash.{RefusesKey, ZeroHash}
use Rattle.mirror.proofs.OtherKeys.{never_14}

-- ---- the calls

module _ (k : Key) (r : ℕ) (e : (rest : List Rule) → first_of (key_rules k ++ rest) ≡ some r) where
  volume_refused : (s : ℕ) (right : Bool) (rest : List Rule) → first_of (volume_rules k s right ++ rest) ≡ some r
  volume_refused s right rest = e ((size_rules s ++ shape_rules right) ++ rest)

  call_refused : (v : Triple) (volume s n i : ℕ) (m : List ℕ) → map_refusal v (args k volume s n i) m ≡ some r
  call_refused v volume s n i m = volume_refused s (is_shape s n v) (map_rules n (length m) ++ number_rules n i)

  refuses_key : is_finished r ≡ false → RefusesKey k r
  refuses_key f = record {
    seals = seal_key_refused k r e;
    judges = judge_key_refused k r e;
    opens = open_key_refused k r e;
    rebuilds = rebuild_key_refused k r e;
    calls = λ v volume s n i c m. marked_refused mirror v (args k volume s n i) c m (call_refused v volume s n i m);
    reads = λ v volume s n i out m. read_refused mirror v (args k volume s n i) out m (call_refused v volume s n i m);
    writes = λ v volume s n i P m.
        wrote v (args k volume s n i) P m (marked_refused mirror v (args k volume s n i) (read (length P)) m (call_refused v volume s n i m)) (after-refusal P r f) refl;
    surveys = λ v volume s n m list counts.
        ap (λ (x : Report × List ℕ). survey_result x counts)
        (survey_refused v (volume_of k volume s n) m list (volume_refused s (is_shape s n v) (map_rules n (length m) ++ list_rules n (length list))));
  }

pub zero_hash : ZeroHash
unfolding is_finished is_zero_hash
zero_hash = record {
  another_length = λ k e. refuses_key k 1 (λ rest. keys_refused.another_length k rest e) refl;
  refused = λ k e z. refuses_key k 14 (λ rest. keys_refused.zero_hash k rest e z) refl;
  no_other = never_14;
  one_tag = λ k z. one_tag k (eqb-true (hash_key k) 0 z);
  nothing_kept = λ vol e z v es y. nothing_kept vol 14 (λ rest. keys_refused.zero_hash vol.key rest e z) v es y;
}
