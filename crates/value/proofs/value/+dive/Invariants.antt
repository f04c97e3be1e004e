use Rattle.rules.specs.Decisions.{open_items}
use Rattle.keeping.specs.Sets.{decisions_of}
use Rattle.chart.specs.Chart.{by_slot}
use Rattle.value.proofs.value.+dive.Given as goal

abbrev pub decreases-dive : goal.decreases-dive
decreases-dive l = open_items (decisions_of (by_slot l.chart.now) l.g)
