-- Turn u prints the line of ordering u, if it is dropped, after those of the orderings before it.
use Rattle.listing.specs.laws.Each.{printed_none, printed_one_more, room_for_one_more}
use Rattle.listing.proofs.lists.put_orderings.Goals as goal

pub loop-u-init : goal.loop-u-init
loop-u-init c = printed_none _ _

pub put_unless-requires : goal.put_unless-requires
put_unless-requires c = rw (c.is_dropped.ensures, c.from-first.ensures, c.from-second.ensures) (room_for_one_more _ _ _ c.loop-u-test.true c.requires.room c.loop-u.invariant)

pub loop-u-preserved : goal.loop-u-preserved
loop-u-preserved c = printed_one_more _ c.loop-u.invariant (rw (c.is_dropped.ensures, c.from-first.ensures, c.from-second.ensures) at c.put_unless.ensures)
