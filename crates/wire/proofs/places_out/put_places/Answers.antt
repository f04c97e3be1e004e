-- Each turn writes one place.
use mathlib.Core.Path.{ap, ◌∙◌}
use native.Mathlib.Omega.{arith}
use Rattle.wire.specs.Places.{number_at}
use Rattle.entries.specs.laws.Put.{filled_nothing, filled_next}
use Rattle.wire.specs.laws.Places.{entry_of}
use Rattle.wire.proofs.places_out.put_places.Goals as goal

pub loop-i-init : goal.loop-i-init
loop-i-init c = filled_nothing _ _ _

pub loop-i-preserved : goal.loop-i-preserved
loop-i-preserved c = filled_next 0 _ _ c.loop-i.invariant (omega arith) (c.number_at.ensures ∙ ap (number_at c.args.places) (entry_of c.loop-i.i))
