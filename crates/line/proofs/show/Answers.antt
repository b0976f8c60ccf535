use native.Mathlib.Omega.{arith}
use lib.ListN.{length-set}
use Rattle.line.proofs.Printing.{length-printed, body_length, body_printed}
use Rattle.line.proofs.show.Goals as goal

pub bounds-out-end : goal.bounds-out-end
bounds-out-end c = omega (arith, body_length c.args.number c.args.plain.now c.encode.new.out c.digit.result c.digit-2.result c.encode.ensures c.args.out.now c.requires)

pub shape_of-out : goal.shape_of-out
shape_of-out c = simp length-set (body_length c.args.number c.args.plain.now c.encode.new.out c.digit.result c.digit-2.result c.encode.ensures c.args.out.now c.requires)

pub returns : goal.returns
returns c = (body_printed c.args.number c.args.plain.now c.encode.new.out c.digit.result c.digit-2.result c.encode.ensures c.args.out.now c.requires c.digit.ensures c.digit-2.ensures, omega (arith, length-printed c.args.number c.args.plain.now), omega arith)
