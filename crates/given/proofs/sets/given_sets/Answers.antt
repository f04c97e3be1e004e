-- Each of the four sets holds the entries that pass its test.
use Rattle.std.proofs.Common.{rules}
use Rattle.rows.specs.laws.Sets.{holds_where}
use Rattle.given.proofs.sets.given_sets.Goals as goal

pub returns : goal.returns
returns c = record {
  kept = holds_where _ (λ k l. let p = c.set_where.ensures.below k l in search rules) c.set_where.ensures.above;
  dropped = holds_where _ (λ k l. let p = c.set_where-2.ensures.below k l in search rules) c.set_where-2.ensures.above;
  kept_orderings = holds_where _ (λ k l. let p = c.set_where-3.ensures.below k l in search rules) c.set_where-3.ensures.above;
  dropped_orderings = holds_where _ (λ k l. let p = c.set_where-4.ensures.below k l in search rules) c.set_where-4.ensures.above;
}
