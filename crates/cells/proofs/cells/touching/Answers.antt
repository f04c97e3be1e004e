-- Each ordering is tested by itself: it is of the set and touches an option of the set.
use Rattle.std.proofs.Common.{rules}
use Rattle.rows.specs.laws.Sets.{holds_where}
use Rattle.cells.proofs.cells.touching.Goals as goal

pub returns : goal.returns
returns c = holds_where _ (λ k l. let p = c.set_where.ensures.below k l in search rules) c.set_where.ensures.above
