-- Some entry passes exactly if the search over the first n finds one.
use Rattle.std.proofs.Common.{rules}
use Rattle.std.proofs.iter.runs.Sources.{ranges}
use Rattle.rows.specs.laws.Slots.{some_told}
use Rattle.given.specs.Given.{some_open}
use Rattle.given.proofs.open.is_open_within.Goals as goal

pub returns : goal.returns
unfolding some_open
returns g c = some_told _ _ _ (λ e. search (rules, ranges)) (λ e i l. search (rules, ranges))
