-- What is left fits every chart: the type bounds it, and a chart has no more items than there are slots.
use Rattle.std.proofs.Common.{arith}
use Rattle.chart.specs.Chart.{by_slot}
use Rattle.chart.specs.declared.chart.Chart.{Chart}
use Rattle.residual.specs.declared.starting.Left.{Left}
use Rattle.residual.specs.Left.{rest, LeftFor}

pub left_for : (chart : Chart) (left : Left) → LeftFor (by_slot chart) (rest left)
left_for chart left = record {
  option_size = (let a = chart.ends.few_options in let b = left.small.option_size in omega arith);
  ordering_size = (let a = chart.ends.few_orderings in let b = left.small.ordering_size in omega arith);
  option = left.small.option;
  ordering = left.small.ordering;
}
