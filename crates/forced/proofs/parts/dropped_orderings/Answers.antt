-- An ordering is tested by itself: it is given, or against what is known.
use Rattle.std.proofs.Common.{rules}
use Rattle.rows.specs.laws.Sets.{holds_where}
use Rattle.forced.proofs.parts.dropped_orderings.Goals as goal

pub returns : goal.returns
returns c = holds_where _ (λ k l. let p = c.set_where.ensures.below k l in search rules) c.set_where.ensures.above
