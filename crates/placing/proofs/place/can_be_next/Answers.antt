-- What is left, as a list, waits exactly if the set does.
use mathlib.Core.Path.{refl}
use Rattle.placing.specs.laws.Slots.{ready_slots}
use Rattle.placing.proofs.place.can_be_next.Goals as goal

pub returns-then-get : goal.returns-then-get
returns-then-get c = rw (← c.get.ensures, c.if-get.true) (ready_slots c.args.t.now _ c.args.left _ c.waits.ensures refl)
