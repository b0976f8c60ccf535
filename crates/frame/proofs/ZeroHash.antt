-- A frame 01 under a hash key of zero. Assumes nothing.
use mathlib.Core.Path.{◌≡◌, ap, ◌∙◌}
use mathlib.Core.Bool.{true}
use mathlib.Core.List.{List, [], ◌∷◌, ◌++◌}
use mathlib.Core.Option.{Option, none}
use Prim.Native.Nat.{ℕ, ◌≤◌}
use native.Mathlib.Omega.{arith}
use lib.ListN.{length, drop, replicate, length-drop}
use lib.Seq.{take-take, length-take-le}
use borrow.Author.Tests.{eq-eqb}
use Rattle.mode.specs.Scheme.{is_key}
use Rattle.mode.specs.Sealing.{Key, key_from}
use Rattle.answers.specs.Rules.{first_of, is_zero_hash}
use Rattle.answers.proofs.Rules.{none_left}
use Rattle.answers.proofs.Keys.{keys_refused}
use Rattle.sector.proofs.KeyRefused.{judge_key_refused}
use Rattle.frame.specs.Frame.{kind, together, half, field, judged, called, refused, with_plaintext, answered, unless_refused, kind_rules, halves_rules, frame_answer}
use Rattle.frame.proofs.Frames.{called-judged, beside_one}
use Rattle.frame.proofs.Refusals.{beside-fits}

-- a frame with a kind has a byte
some_byte : (f : List ℕ) → kind f ≡ 1 → 1 ≤ length f
some_byte [] e = absurd (omega arith)
some_byte (x ∷ f) e = omega arith

module _ (f : List ℕ) (one : kind f ≡ 1) (passes : first_of (kind_rules f ++ halves_rules (together f)) ≡ none) (zeros : field 1 16 f ≡ replicate 16 0) where
  abbrev k : Key
  k = key_from (field 1 32 f)

  keyed : is_key k ≡ true
  unfolding is_key
  keyed =
      let l = beside-fits f (some_byte f one) (none_left (halves_rules (together f)) (kind_rules f) passes) in
      eq-eqb _ 32 (length-take-le 32 (drop 1 f) (simp length-drop (omega (arith, beside_one f one))))

  zero_hash_key : is_zero_hash k ≡ true
  zero_hash_key = (keys_refused.zero_bytes k keyed).1 (take-take 16 32 (drop 1 f) (omega arith) ∙ zeros)

  judged_14 : (out : List ℕ) → judged f out ≡ (14, out)
  unfolding judged
  judged_14 out = judge_key_refused k 14 (λ rest. keys_refused.zero_hash k rest keyed zero_hash_key) 0 _ _ out

  pub zero_hash_frame : frame_answer f ≡ refused 14
  unfolding frame_answer answered with_plaintext
  zero_hash_frame =
      let out : List ℕ = replicate (half f) 0 in
      ap (λ (o : Option ℕ). unless_refused o (answered (called f out))) passes ∙ ap answered (called-judged f out one ∙ judged_14 out)
