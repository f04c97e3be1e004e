-- What is dropped weighs no more than everything, so the subtraction is exact.
use native.Mathlib.Omega.{arith}
use Rattle.rows.specs.Bits.{has}
use Rattle.half.specs.laws.Half.{dropped_fits, half_decided_as}
use Rattle.chart.specs.Chart.{by_slot}
use Rattle.half.proofs.opened.half_decided.Goals as goal

pub overflow_sub-result : goal.overflow_sub-result
overflow_sub-result c = omega (arith, c.weigh_both-2.ensures.0, c.weigh_all.ensures.0, c.weigh_all-2.ensures.0, dropped_fits (by_slot c.args.chart.now) (has c.args.f.now.dropped) (has c.args.f.now.dropped_orderings))

pub returns : goal.returns
returns c = half_decided_as (by_slot c.args.chart.now) c.args.f.now _ _ _ _ _ _ c.open_items.ensures c.open_items-2.ensures c.weigh_both.ensures.0 c.weigh_both.ensures.1 c.weigh_all.ensures.0 c.weigh_all-2.ensures.0 (omega (arith, c.weigh_all.ensures.1, c.weigh_all-2.ensures.1)) (omega (arith, c.weigh_both-2.ensures.0))
