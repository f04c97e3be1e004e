-- Each slot is tested by itself: it is neither kept nor dropped.
use Rattle.std.proofs.Common.{rules}
use Rattle.rows.specs.laws.Sets.{holds_where}
use Rattle.half.proofs.opened.open_items.Goals as goal

pub returns : goal.returns
returns g c = holds_where _ (λ k l. let p = c.set_where.ensures.below k l in search rules) c.set_where.ensures.above
