use Rattle.frame.proofs.Frames.{judged_is}
use Rattle.frame.proofs.judge_frame.Goals as goal

pub returns : goal.returns
returns c =
    let a = c.args in
    let address = c.load_word in
    judged_is a.frame.now a.plain.now address.result c.requires address.ensures c.judge.ensures
