-- The orderings that hold something, put into an empty table.
use Rattle.chains.specs.laws.Held.{soft_is}
use Rattle.chains.proofs.held.soft_of.Goals as goal

pub returns : goal.returns
returns c = soft_is _ _ _ _ _ _ c.holding-set.ensures c.with_orderings.ensures
