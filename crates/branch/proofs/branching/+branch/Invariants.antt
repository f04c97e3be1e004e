use Rattle.rules.specs.Decisions.{open_items}
use Rattle.keeping.specs.Sets.{decisions_of}
use Rattle.chart.specs.Chart.{by_slot}
use Rattle.branch.proofs.branching.+branch.Given as goal

abbrev pub decreases-branch : goal.decreases-branch
decreases-branch l = open_items (decisions_of (by_slot l.chart.now) l.g)
