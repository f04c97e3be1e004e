-- Each turn measures one member more.
use Prim.Native.Nat.{◌≤◌}
use Rattle.residual.specs.TakenAll.{Measured}
use Rattle.charge.proofs.charging.measure_all.Given as goal

abbrev pub invariant-loop-p : goal.invariant-loop-p
invariant-loop-p l = Measured l.chart.firsts l.chart.seconds l.chart.option_count l.chart.ordering_count l.left.options l.left.orderings l.chain l.p l.least l.was × (l.least ≤ 4259775)
