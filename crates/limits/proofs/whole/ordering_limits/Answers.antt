-- Each entry is the limit of its slot, or none past the last.
use Rattle.std.proofs.Common.{rules}
use Rattle.limits.specs.laws.Padded.{filled_by}
use Rattle.limits.proofs.whole.ordering_limits.Goals as goal

pub returns : goal.returns
returns c = filled_by 64 _ _ _ _ c.each_limit.ensures.size (λ k l. let p = c.each_limit.ensures.below k l in search rules) c.each_limit.ensures.above c.args.chart.now.ends.few_orderings
