-- Turn i prints the line of option i, if it is dropped, after those of the options before it.
use Rattle.listing.specs.laws.Each.{printed_none, printed_one_more, room_for_one_more}
use Rattle.listing.proofs.lists.put_options.Goals as goal

pub loop-i-init : goal.loop-i-init
loop-i-init c = printed_none _ _

pub put_unless-requires : goal.put_unless-requires
put_unless-requires c = rw (c.is_dropped.ensures, c.from-number.ensures) (room_for_one_more _ _ _ c.loop-i-test.true c.requires.room c.loop-i.invariant)

pub loop-i-preserved : goal.loop-i-preserved
loop-i-preserved c = printed_one_more _ c.loop-i.invariant (rw (c.is_dropped.ensures, c.from-number.ensures) at c.put_unless.ensures)
