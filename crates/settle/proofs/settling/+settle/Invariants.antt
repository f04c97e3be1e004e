-- Round after round, and each leaves fewer items open.
use Rattle.rules.specs.Decisions.{open_items}
use Rattle.keeping.specs.Sets.{decisions_of}
use Rattle.chart.specs.Chart.{by_slot}
use Rattle.settle.proofs.settling.+settle.Given as goal

abbrev pub decreases-settle : goal.decreases-settle
decreases-settle l = open_items (decisions_of (by_slot l.chart.now) l.g)
