-- Turn i prints the line of place i + 1, if an option stands there, after those of the places before it.
use Rattle.listing.specs.laws.Each.{printed_none, printed_one_more, room_for_one_more}
use Rattle.listing.proofs.lists.put_places.Goals as goal

pub loop-i-init : goal.loop-i-init
loop-i-init c = printed_none _ _

pub put_unless-requires : goal.put_unless-requires
put_unless-requires c = rw c.from-number.ensures (room_for_one_more _ _ _ c.loop-i-test.true c.requires c.loop-i.invariant)

pub loop-i-preserved : goal.loop-i-preserved
loop-i-preserved c = printed_one_more _ c.loop-i.invariant (rw c.from-number.ensures at c.put_unless.ensures)
