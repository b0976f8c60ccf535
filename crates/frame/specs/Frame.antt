-- A frame of the program `frames` (document 01, "Without the volume"): its refusals and its answer. Assumes nothing: these are definitions.
use Rattle.std.specs.Prelude.{Bool, not, ◌&&◌, ◌||◌, cond, List, [], ◌∷◌, ◌++◌, ℕ, ◌+◌, ◌-◌, ◌/◌, ◌%◌, eqb, leb, length, take, drop, get_or, replicate}
use Rattle.std.proofs.Math.Option.{Option, none, some}
use Rattle.block.specs.Bytes.{from_bytes}
use Rattle.mode.specs.Scheme.{local, tag, remote}
use Rattle.mode.specs.Sealing.{triple, key_from}
use Rattle.answers.specs.Answers.{doubt_number}
use Rattle.answers.specs.Rules.{Rule, rule, first_of, size_rules}
use Rattle.sector.specs.Calls.{judge_call, combine_call}

-- ---- the bytes f of a frame

-- the first byte; 0, which is no kind, if there is none
abbrev pub kind : List ℕ → ℕ
kind f = get_or f 0 0

-- what stands beside the two sectors: the kind, and in a frame 01 a key, an address and a tag
unfoldable pub beside : List ℕ → ℕ
beside f = cond (eqb (kind f) 1) (1 + 32 + 8 + 16) 1

-- the two sectors' bytes together, and half of them
unfoldable pub together : List ℕ → ℕ
together f = length f - beside f

unfoldable pub half : List ℕ → ℕ
half f = together f / 2

-- n bytes from byte a on
abbrev pub field : ℕ → ℕ → List ℕ → List ℕ
field a n f = take n (drop a f)

-- Judge, under the volume's number 0, for a frame 01, Combine for a frame 02, with an output as long as a sector: the answer's number and
-- the output afterwards
unfoldable pub judged : List ℕ → List ℕ → ℕ × List ℕ
judged f out =
    let s : ℕ = length out in
    judge_call (key_from (field 1 32 f)) 0 (from_bytes (field 33 8 f)) (triple (field 41 s f) (field (41 + s) 16 f) (field (57 + s) s f)) out

unfoldable pub combined : List ℕ → List ℕ → ℕ × List ℕ
combined f out = let s : ℕ = length out in combine_call (field 1 s f) (field (1 + s) s f) out

unfoldable pub called : List ℕ → List ℕ → ℕ × List ℕ
called f out = cond (eqb (kind f) 1) (judged f out) (combined f out)

-- ---- an answer

-- a number and the plaintext, or only a refusal
pub data Answer : Type 0 where
  given : ℕ → List ℕ → Answer
  refused : ℕ → Answer

-- the numbers that come with the plaintext: 00 (whole or combined), and 81, 82, 83 (doubt at place 1, 2, 3)
unfoldable pub with_plaintext : ℕ → Bool
with_plaintext n = eqb n 0 || (eqb n (doubt_number local) || (eqb n (doubt_number tag) || eqb n (doubt_number remote)))

-- a call's answer, from its number and its output: any other number is a refusal
unfoldable pub answered : ℕ × List ℕ → Answer
answered (n, P) = cond (with_plaintext n) (given n P) (refused n)

-- the first refusal, or else what is answered without one
abbrev pub unless_refused : Option ℕ → Answer → Answer
unless_refused none a = a
unless_refused (some n) a = refused n

-- ---- a frame

-- the refusals of a frame's kind
abbrev pub kind_rules : List ℕ → List Rule
kind_rules f =
    rule 12 (not (eqb (kind f) 1 || eqb (kind f) 2))
    ∷ rule 12 (eqb (kind f) 1 && not (leb 57 (length f)))
    ∷ []

-- and of two sectors with n bytes together
abbrev pub halves_rules : ℕ → List Rule
halves_rules n = rule 3 (not (eqb (n % 2) 0)) ∷ size_rules (n / 2)

-- a frame's answer: the first refusal, or the call's with an output of zeros
unfoldable pub frame_answer : List ℕ → Answer
frame_answer f = unless_refused (first_of (kind_rules f ++ halves_rules (together f))) (answered (called f (replicate (half f) 0)))
