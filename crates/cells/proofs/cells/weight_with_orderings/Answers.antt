-- The open options of the set are met first, so only orderings that touch one of these are charged, and each once.
use Rattle.cells.proofs.laws.Cells.{charge_of_set}
use Rattle.chart.specs.Chart.{by_slot}
use Rattle.cells.proofs.cells.weight_with_orderings.Goals as goal

pub returns : goal.returns
returns c = (charge_of_set (by_slot c.args.chart.now) c.args.h.now c.args.set c.meet-options.ensures c.touching.ensures c.weigh_both.ensures.0, c.weigh_both.ensures.1)
