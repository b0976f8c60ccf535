-- What the inner functions promise of a mark, by the number k of an answer. Assumes nothing: these are definitions.
use Rattle.std.specs.Prelude.{cond, ℕ, eqb}
use Rattle.suspects.specs.declared.Mark.{Mark}
use Rattle.suspects.specs.declared.Mark.TheVariants.{Clears, Keeps}
use Rattle.suspects.specs.Marks.{is_finished, lost_or_clashing}

-- of a call that only writes
abbrev pub done_mark : Mark → ℕ → Mark
done_mark finished k = cond (is_finished k) finished Keeps

-- of a read or a mend
abbrev pub judged_mark : Mark → ℕ → Mark
judged_mark doubtful k = cond (is_finished k) (cond (eqb k 0) Clears doubtful) (lost_or_clashing k)
