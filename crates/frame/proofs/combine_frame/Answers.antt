use mathlib.Core.Path.{ap, ◌∙◌}
use Rattle.std.proofs.lemmas.Result.{err_from_is_err_and}
use Rattle.answers.specs.Answers.{done_number}
use Rattle.frame.proofs.Frames.{combined_is}
use Rattle.frame.proofs.combine_frame.Goals as goal

pub returns-in_err-combine : goal.returns-in_err-combine
returns-in_err-combine c =
    let p = err_from_is_err_and c.from_residual.result c.from_residual.ensures.1 in
    let h = combined_is c.args.frame.now c.args.plain.now c.requires c.combine.ensures in
    rw (p.1, p.2) (h ∙ ap (λ r. (done_number r, c.combine.new.out)) c.in_err-combine.was)

pub returns : goal.returns
returns c =
    let h = combined_is c.args.frame.now c.args.plain.now c.requires c.combine.ensures in
    h ∙ ap (λ r. (done_number r, c.combine.new.out)) c.in_ok-combine.was
