-- Each turn writes one place.
use Rattle.wire.specs.Places.{number_at}
use Rattle.entries.specs.laws.Put.{Filled}
use Rattle.wire.proofs.places_out.put_places.Given as goal

abbrev pub invariant-loop-i : goal.invariant-loop-i
invariant-loop-i l = Filled 0 (number_at l.places) l.i l.initial.out l.out
