use native.Mathlib.Omega.{arith}
use Rattle.survey.proofs.Listing.{listing_none, listing_one, listing_same}
use borrow.Author.Rules.{rules}
use Rattle.survey.proofs.maps.list_kind.Goals as goal
use Rattle.survey.proofs.maps.list_kind.Goals.{then-test_bit, else-test_bit}

pub loop-i-init : goal.loop-i-init
loop-i-init c = search (rules, listing_none)

pub loop-i-preserved : goal.loop-i-preserved
loop-i-preserved c =
    let v = c.loop-i.invariant in
    let e = c.test_bit.ensures in
    elim c.if-test_bit.branch [
      | then-test_bit w ↦ listing_one _ _ _ _ v (omega arith) e w.if-test_bit.true w.list-is w.next-is
      | else-test_bit w ↦ listing_same _ _ _ _ v (omega arith) e w.if-test_bit.false w.list-is w.next-is
    ]
