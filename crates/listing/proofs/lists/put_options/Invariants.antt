-- Turn i prints the line of option i, if it is dropped, after those of the options before it.
use Rattle.print.specs.Page.{Printed}
use Rattle.listing.specs.Listing.{each, option_line}
use Rattle.listing.proofs.lists.put_options.Given as goal

abbrev pub invariant-loop-i : goal.invariant-loop-i
invariant-loop-i l = Printed l.initial.page l.page (each l.i (option_line l.options l.numbers))
