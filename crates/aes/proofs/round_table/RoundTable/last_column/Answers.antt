use mathlib.Core.Path.{ap, ◌∙◌}
use Rattle.block.specs.Bytes.{to_bytes}
use Rattle.aes.proofs.Words.{be_word}
use Rattle.aes.proofs.Rounds.{last_column_lem}
use Rattle.aes.proofs.round_table.RoundTable.last_column.Goals as goal

pub returns : goal.returns
returns c =
    let args = c.args in
    ap (to_bytes 4) (c.from_be_bytes.ensures ∙ be_word _ _ _ _)
    ∙ last_column_lem args.a args.b args.c args.d _ _ _ _
    c.substitute.ensures c.substitute-2.ensures c.substitute-3.ensures c.substitute-4.ensures
