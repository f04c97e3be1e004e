-- Each option is tested by itself: it is another one, and each is known before the other.
use Rattle.std.proofs.Common.{rules}
use Rattle.rows.specs.laws.Sets.{holds_where}
use Rattle.half.specs.Half.{clashes_in}
use Rattle.cells.proofs.cells.clash_row.Goals as goal

pub returns : goal.returns
unfolding clashes_in
returns c = holds_where _ (λ k l. let p = c.set_where.ensures.below k l in search rules) c.set_where.ensures.above
