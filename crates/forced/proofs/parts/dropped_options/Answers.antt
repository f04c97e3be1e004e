-- Being before and after a kept option is the same as being before itself, since rows are joined through kept options; so each test looks at one slot.
use Rattle.std.proofs.Common.{rules}
use Rattle.rows.specs.laws.Sets.{holds_where}
use Rattle.forced.proofs.parts.dropped_options.Goals as goal

pub returns : goal.returns
returns c = holds_where _ (λ k l. let p = c.set_where.ensures.below k l in search rules) c.set_where.ensures.above
