-- The upper limit of the sheet with nothing decided.
use Rattle.value.specs.laws.Whole.{limit_is_above}
use Rattle.value.proofs.bounds.whole_limit.Goals as goal

pub returns : goal.returns
returns c = limit_is_above _ _ c.nothing_given-g.ensures _ c.force-f.ensures _ c.half_decided-h.ensures
