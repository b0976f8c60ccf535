-- The whole input of the program `frames`, and the same fed one buffer at a time. Assumes nothing: these are definitions. That any cuts of
-- an input print what the whole input does is proved as `feeds_whole`.
use Rattle.std.specs.Prelude.{◌≡◌, cond, List, [], ◌∷◌, ◌++◌, ℕ, eqb, length, take}
use Rattle.line.specs.Line.{print_line}

-- ---- the whole input

-- the lines, where `line` stands before the rest: each ends at a line feed; `last` says which come of what stands behind the last line feed
unfoldable pub lines_from : (List ℕ → List (List ℕ)) → List ℕ → List ℕ → List (List ℕ)
lines_from last line [] = last line
lines_from last line (c ∷ cs) = cond (eqb c 10) (line ∷ lines_from last [] cs) (lines_from last (line ++ (c ∷ [])) cs)

-- at the end of the input: a line, if it is not empty
unfoldable pub at_end : List ℕ → List (List ℕ)
at_end line = cond (eqb (length line) 0) [] (line ∷ [])

unfoldable pub print_lines : List (List ℕ) → List ℕ
print_lines [] = []
print_lines (line ∷ lines) = print_line line ++ print_lines lines

unfoldable pub print_input : List ℕ → List ℕ
print_input input = print_lines (lines_from at_end [] input)

-- of an input whose end is not known, only the lines that a line feed ends
unfoldable pub print_ended : List ℕ → List ℕ
print_ended input = print_lines (lines_from (λ line. []) [] input)

-- ---- one buffer at a time

-- what is kept of a line that has not ended: 16,499 bytes are enough to refuse it
unfoldable pub held : List ℕ → List ℕ
held line = take 16499 line

-- what is held after a buffer, and what it prints
pub record Fed : Type 0 where
  pub rest : List ℕ
  pub printed : List ℕ

abbrev pub printing : List ℕ → Fed → Fed
printing p r = record { rest = r.rest; printed = p ++ r.printed }

unfoldable pub fed : List ℕ → List ℕ → Fed
fed line [] = record { rest = line; printed = [] }
fed line (c ∷ cs) = cond (eqb c 10) (printing (print_line line) (fed [] cs)) (fed (held (line ++ (c ∷ []))) cs)

-- the end of the input
unfoldable pub finished : List ℕ → List ℕ
finished line = cond (eqb (length line) 0) [] (print_line line)

-- buffers one after another, and the end
unfoldable pub fed_all : List ℕ → List (List ℕ) → List ℕ
fed_all line [] = finished line
fed_all line (b ∷ bs) = let r : Fed = fed line b in r.printed ++ fed_all r.rest bs

abbrev pub concat : List (List ℕ) → List ℕ
concat [] = []
concat (b ∷ bs) = b ++ concat bs

-- ---- the theorem

abbrev pub FeedsWhole : Type 0
FeedsWhole = (bs : List (List ℕ)) → fed_all [] bs ≡ print_input (concat bs)
