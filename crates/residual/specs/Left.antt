-- What is left of the items' weights, for the items of a chart.
use Rattle.std.specs.Prelude.{List, ℕ}
use Rattle.rules.specs.laws.search.Residual.{Residual}
use Rattle.residual.specs.Taken.{residual_in, held_in, LeftIn}
use Rattle.chart.specs.Chart.{BySlot}
use Rattle.residual.specs.declared.starting.Left.{Left}

-- What is left of options and of orderings, whatever is known of it.
pub record Rest : Type 0 where
  pub options : List ℕ
  pub orderings : List ℕ

abbrev pub rest : Left → Rest
rest left = record { options = left.options; orderings = left.orderings }

-- The residuals that it holds.
abbrev pub residual_of : Rest → Residual
residual_of left = residual_in left.options left.orderings

-- What an item's consequences hold of it together.
abbrev pub held_of : BySlot → Rest → ℕ → ℕ
held_of chart left = held_in chart.option_count chart.ordering_count chart.firsts chart.seconds left.options left.orderings

-- None is above the greatest weight.
abbrev pub LeftFor : BySlot → Rest → Type 0
LeftFor chart left = LeftIn chart.option_count chart.ordering_count left.options left.orderings
