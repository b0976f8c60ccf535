use Rattle.survey.proofs.Listing.{Listing}
use Rattle.survey.proofs.maps.list_kind.Given as goal

abbrev pub invariant-loop-i : goal.invariant-loop-i
invariant-loop-i l = Listing l.map l.n l.initial.list l.at l.i l.next l.list
