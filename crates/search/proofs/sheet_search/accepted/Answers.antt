-- What is not kept is dropped, so the decisions are the chosen ones.
use Rattle.search.specs.Search.{accepted}
use Rattle.search.specs.laws.Answered.{chosen_filled}
use Rattle.search.proofs.sheet_search.accepted.Goals as goal

pub returns : goal.returns
unfolding accepted
returns c = rw (c.all_decided-options.ensures, c.all_decided-orderings.ensures, chosen_filled 32 _ _ _ c.open_items-rest.ensures, chosen_filled 64 _ _ _ c.open_items-rest_orderings.ensures)
