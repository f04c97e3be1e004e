-- Each part is worked out from the parts before it; the law `forced_as` puts them together.
use Rattle.forced.specs.laws.Forced.{forced_as}
use Rattle.forced.proofs.forcing.force.Goals as goal

pub returns : goal.returns
returns c = λ v b shows gives. forced_as v b _ _ _ _ c.args.chart.now.rows c.args.g shows gives c.args.chart.now.ends _ _ _ _ _ c.kept_options-kept.ensures c.with_orderings-start.ensures c.join_through_all-known.ensures c.dropped_options-dropped.ensures c.dropped_orderings-dropped_orderings.ensures _ c.contradicts.ensures
