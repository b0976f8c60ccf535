use mathlib.Core.Path.{refl, ap, ◌∙◌}
use native.Mathlib.Omega.{arith}
use Rattle.block.specs.Bytes.{to_bytes}
use Rattle.fips197.specs.Aes.{rotate}
use Rattle.aes.specs.Columns.{round_column}
use Rattle.aes.proofs.Words.{rotated_right}
use Rattle.aes.proofs.Rounds.{round_column_lem}
use Rattle.aes.proofs.round_table.RoundTable.round_column.Goals as goal

pub returns : goal.returns
unfolding round_column
returns c =
    round_column_lem _ _ _ _ _ _ _ _ _
    c.look_up.ensures
    (ap (to_bytes 4) c.rotate_right.ensures ∙ rotated_right _ 1 3 refl (omega arith) ∙ ap (rotate 3) c.look_up-2.ensures)
    (ap (to_bytes 4) c.rotate_right-2.ensures ∙ rotated_right _ 2 2 refl (omega arith) ∙ ap (rotate 2) c.look_up-3.ensures)
    (ap (to_bytes 4) c.rotate_right-3.ensures ∙ rotated_right _ 3 1 refl (omega arith) ∙ ap (rotate 1) c.look_up-4.ensures)
