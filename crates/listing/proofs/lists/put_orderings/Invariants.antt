-- Turn u prints the line of ordering u, if it is dropped, after those of the orderings before it.
use Rattle.print.specs.Page.{Printed}
use Rattle.listing.specs.Listing.{each, ordering_line}
use Rattle.listing.proofs.lists.put_orderings.Given as goal

abbrev pub invariant-loop-u : goal.invariant-loop-u
invariant-loop-u l = Printed l.initial.page l.page (each l.u (ordering_line l.orderings l.firsts l.seconds))
