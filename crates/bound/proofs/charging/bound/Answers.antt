-- What the rounds charge from the start, or nothing where nothing need be charged.
use native.Mathlib.Omega.{arith}
use Rattle.residual.specs.laws.Left.{left_for}
use Rattle.bound.specs.laws.Bound.{charged_nothing, bounded}
use Rattle.bound.proofs.charging.bound.Goals as goal

pub returns-then-enough-gt0 : goal.returns-then-enough-gt0
returns-then-enough-gt0 c = bounded _ c.start-left.ensures.options c.start-left.ensures.orderings c.charge_rounds-charged.ensures

pub returns-else-enough-gt0 : goal.returns-else-enough-gt0
returns-else-enough-gt0 c = bounded _ c.start-left.ensures.options c.start-left.ensures.orderings (charged_nothing (omega arith) (left_for c.args.chart.now c.start-left.result))
