-- Whatever the finder gives: the charge checks it.
use Rattle.residual.specs.laws.Left.{left_for}
use Rattle.bound.specs.laws.Bound.{no_charge, charged_one}
use Rattle.bound.proofs.charging.charge_one.Goals as goal

pub returns-in_default : goal.returns-in_default
returns-in_default c = no_charge (left_for c.args.chart.now c.args.left.now)

pub returns : goal.returns
returns c = charged_one c.charge.ensures
