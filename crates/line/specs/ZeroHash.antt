-- What the program `frames` prints for a frame 01 under a hash key of zero (change request S-7): proved as `prints_0e`.
use Rattle.std.specs.Prelude.{◌≡◌, not, List, [], ◌∷◌, ◌++◌, ℕ, length, replicate}
use Rattle.std.proofs.Math.Option.{none}
use Rattle.answers.specs.Rules.{rule, first_of}
use Rattle.text.specs.Digits.{all_digits, decode}
use Rattle.frame.specs.Frame.{kind, together, field, kind_rules, halves_rules}
use Rattle.line.specs.Line.{line_rules, print_line}

-- `0e` and a line feed, where none of 12, 3 and 2 comes before; h is the 16 bytes behind the kind
abbrev pub Prints0e : Type 0
Prints0e = (line : List ℕ) → first_of (line_rules (length line) ++ (rule 12 (not (all_digits line)) ∷ [])) ≡ none
    → kind (decode line) ≡ 1 → first_of (kind_rules (decode line) ++ halves_rules (together (decode line))) ≡ none
    → field 1 16 (decode line) ≡ replicate 16 0 → print_line line ≡ 48 ∷ 101 ∷ 10 ∷ []
