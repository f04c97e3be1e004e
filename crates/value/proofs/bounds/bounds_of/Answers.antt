-- The best value is floor and ceiling; with a tolerance the sheet's limit is the ceiling.
use Rattle.value.specs.laws.Whole.{bounds_at_nought}
use Rattle.value.proofs.bounds.bounds_of.Goals as goal

pub returns-then-tolerance-eq0 : goal.returns-then-tolerance-eq0
returns-then-tolerance-eq0 c = bounds_at_nought _ _ c.if-tolerance-eq0.true _ c.best_of_all-best.ensures.0 c.best_of_all-best.ensures.1
