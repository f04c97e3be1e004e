use Rattle.rules.specs.Decisions.{open_items}
use Rattle.keeping.specs.Sets.{decisions_of}
use Rattle.chart.specs.Chart.{by_slot}
use Rattle.value.proofs.value.+best_value.Given as goal

abbrev pub decreases-best_value : goal.decreases-best_value
decreases-best_value l = open_items (decisions_of (by_slot l.chart.now) l.g)
