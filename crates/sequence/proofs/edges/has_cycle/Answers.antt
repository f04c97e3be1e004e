-- The search over the rows ends at the first option that stands before itself.
use Rattle.std.proofs.Common.{rules}
use Rattle.rows.specs.laws.Slots.{some_told}
use Rattle.sequence.proofs.edges.has_cycle.Goals as goal

pub returns : goal.returns
returns c = some_told _ _ _ (λ e. search rules) (λ e i l. search rules)
