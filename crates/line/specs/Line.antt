-- One line of the program `frames` (document 01, "Without the volume"): what is printed for it. Assumes nothing: these are definitions.
use Rattle.std.specs.Prelude.{not, cond, List, [], ◌∷◌, ◌++◌, ℕ, ◌+◌, ◌/◌, ◌%◌, eqb, leb, length}
use Rattle.answers.specs.Rules.{Rule, rule, first_of}
use Rattle.text.specs.Digits.{all_digits, decode}
use Rattle.frame.specs.Frame.{Answer, given, refused, unless_refused, frame_answer}

-- ---- bytes in hexadecimal

-- the digit of a value below 16, in lower case
unfoldable pub digit : ℕ → ℕ
digit v = cond (leb v 9) (v + 48) (v + 87)

unfoldable pub encode : List ℕ → List ℕ
encode [] = []
encode (b ∷ bs) = digit (b / 16) ∷ digit (b % 16) ∷ encode bs

-- ---- a line

-- the refusals of a line of n bytes
abbrev pub line_rules : ℕ → List Rule
line_rules n = rule 12 (eqb n 0) ∷ rule 12 (leb 16499 n) ∷ rule 12 (not (eqb (n % 2) 0)) ∷ []

-- a line's answer: the first refusal, or its frame's
unfoldable pub line_answer : List ℕ → Answer
line_answer line = unless_refused (first_of (line_rules (length line) ++ (rule 12 (not (all_digits line)) ∷ []))) (frame_answer (decode line))

-- a number and a plaintext in digits, and a line feed
unfoldable pub printed : ℕ → List ℕ → List ℕ
printed n P = encode (n ∷ P) ++ (10 ∷ [])

unfoldable pub shown : Answer → List ℕ
shown (given n P) = printed n P
shown (refused n) = printed n []

unfoldable pub print_line : List ℕ → List ℕ
print_line line = shown (line_answer line)
