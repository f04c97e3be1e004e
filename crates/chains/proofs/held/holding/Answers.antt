-- The set of the items that pass the test, which says what `holds_some` says.
use Rattle.std.proofs.Common.{rules}
use Rattle.rows.specs.laws.Sets.{holds_where}
use Rattle.chains.proofs.held.holding.Goals as goal

pub returns : goal.returns
returns g c = holds_where _ (λ k l. let p = c.set_where.ensures.below k l in search rules) c.set_where.ensures.above
