-- The law `limited_otherwise` puts the parts together; a contradiction needs only the forced decisions.
use mathlib.Core.Path.{◌∙◌}
use Rattle.limits.specs.laws.Limited.{limited_contradiction, limited_otherwise}
use Rattle.chart.specs.Chart.{by_slot}
use Rattle.limits.proofs.whole.limits_of.Goals as goal

pub returns-then-f : goal.returns-then-f
returns-then-f c = λ v b shows weighs gives. c.nothing_but.ensures ∙ limited_contradiction (by_slot c.args.chart.now) c.args.g _ c.force-f.ensures c.if-f.true v b shows weighs gives

pub returns : goal.returns
returns c = limited_otherwise _ c.args.g _ c.force-f.ensures c.args.chart.now.ends _ c.half_decided-h.ensures c.if-f.false c.all_decided-options.ensures c.all_decided-orderings.ensures c.option_limits.ensures c.ordering_limits.ensures
