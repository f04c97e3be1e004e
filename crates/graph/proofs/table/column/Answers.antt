-- The column is the set of the rows that hold j.
use Rattle.std.proofs.Common.{rules}
use Rattle.rows.specs.laws.Sets.{holds_where}
use Rattle.graph.proofs.table.column.Goals as goal

pub returns : goal.returns
returns c = holds_where _ (λ k l. let p = c.set_where.ensures.below k l in search rules) c.set_where.ensures.above
