use mathlib.Core.Path.{◌∙◌}
use Rattle.input.proofs.Turns.{stored_is}
use Rattle.input.proofs.feed_front.Goals as goal

-- `feed_front` meets its contract. Assumes nothing.

pub returns : goal.returns
returns c =
    let f = c.feed_buffer-fed in
    let l = c.clear in
    let s = stored_is _ f.result.used (f.auto.line ∙ c.requires.1) f.ensures.2 f.ensures.0 in
    (l.ensures ∙ s.0, s.1, f.ensures.1)
