use native.Mathlib.Omega.{arith}
use Rattle.images.proofs.Parts.{local_long, part_sizes}
use Rattle.images.proofs.judge_part.Goals as goal

pub invariant_of-part : goal.invariant_of-part
invariant_of-part c = record { sizes = part_sizes _ _ _ _ _ c.args.sector.now.within _ c.places.ensures }

pub judge_in-requires : goal.judge_in-requires
judge_in-requires c =
    let given = c.requires in
    let long = local_long _ _ _ _ _ c.args.sector.now.within _ c.places.ensures in
    (omega arith, omega arith, omega arith)
