use Rattle.std.proofs.Common.{length}
use Rattle.images.proofs.Parts.{lent_compared}
use Rattle.images.proofs.fits_local.Goals as goal

-- by hand: without it the edit compares_with_first_byte is refused by a limit alone
pub returns : goal.returns
returns c = lent_compared (length c.args.p.now) c.args.i c.args.local.now c.transform.ensures c.eq.ensures
