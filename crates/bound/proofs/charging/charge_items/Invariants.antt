-- Each turn charges one chain more, or none.
use Rattle.bound.specs.Bound.{KeepsCharged}
use Rattle.residual.specs.Left.{rest}
use Rattle.chart.specs.Chart.{by_slot}
use Rattle.bound.proofs.charging.charge_items.Given as goal

abbrev pub invariant-loop : goal.invariant-loop
invariant-loop l = KeepsCharged (by_slot l.chart) l.known l.initial.hints.charged l.hints.charged (rest l.initial.left) (rest l.left)
