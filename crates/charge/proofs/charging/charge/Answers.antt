-- Nothing is taken unless the chain closes.
use Rattle.residual.specs.laws.Left.{left_for}
use Rattle.residual.specs.laws.Taken.{small_lower}
use Rattle.charge.specs.laws.Charges.{all_charged}
use Rattle.charge.proofs.charging.charge.Goals as goal

pub invariant_of-left : goal.invariant_of-left
invariant_of-left c = let g = c.take_all.ensures in
    record { small = small_lower _ _ _ _ g.option_size g.ordering_size g.lower c.args.left.now.small }

pub returns : goal.returns
returns c =
    all_charged _ _ _ _ _ _ _ _ _ (left_for c.args.chart.now c.args.left.now) _ _ _
    (c.all_named.ensures.told c.if-not-all_named.false)
    (c.closed-closes.ensures.told c.if-not-closes.false)
    c.measure_all-least.ensures.1 c.take_all.ensures
