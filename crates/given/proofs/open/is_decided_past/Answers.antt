-- Some entry passes exactly if the search over all of them finds one.
use Rattle.std.proofs.Common.{rules}
use Rattle.rows.specs.laws.Slots.{some_told}
use Rattle.given.specs.Given.{some_past}
use Rattle.given.proofs.open.is_decided_past.Goals as goal

pub returns : goal.returns
unfolding some_past
returns g c = some_told _ _ _ (λ e. search rules) (λ e i l. search rules)
