-- Where a line ends. Assumes nothing: this is a definition.
use Rattle.std.specs.Prelude.{cond, List, [], ◌∷◌, ℕ, suc, eqb}

-- how many bytes stand before the next line feed, or before the end where there is none
unfoldable pub stretch : List ℕ → ℕ
stretch [] = 0
stretch (c ∷ cs) = cond (eqb c 10) 0 (suc (stretch cs))
