use Rattle.line.proofs.Showing.{room_printed}
use Rattle.line.proofs.print_sectors.Goals as goal

pub returns : goal.returns
returns c = room_printed c.args.frame.now c.args.s c.requires.1 c.args.out.now c.print_answer.new.out c.print_answer.result c.print_answer.ensures
