-- Turn i prints the line of place i + 1, if an option stands there, after those of the places before it.
use Rattle.print.specs.Page.{Printed}
use Rattle.listing.specs.Listing.{each, place_line}
use Rattle.listing.proofs.lists.put_places.Given as goal

abbrev pub invariant-loop-i : goal.invariant-loop-i
invariant-loop-i l = Printed l.initial.page l.page (each l.i (place_line l.places))
