use Rattle.std.proofs.Common.{length}
use Rattle.hash.proofs.+brw_last.Given as goal

-- the length of x
abbrev pub decreases-brw_last : goal.decreases-brw_last
decreases-brw_last l = length l.x.now
