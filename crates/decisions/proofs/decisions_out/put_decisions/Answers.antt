-- Options, then orderings.
use Rattle.decisions.specs.laws.Decisions.{decisions_put}
use Rattle.decisions.proofs.decisions_out.put_decisions.Goals as goal

pub returns : goal.returns
returns c = decisions_put c.args.decisions _ c.put_list.ensures c.put_list-2.ensures
