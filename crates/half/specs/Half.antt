-- A half-decided sheet after forcing, in rows of bits.
use Rattle.std.specs.Prelude.{◌≡◌, Bool, not, ◌&&◌, ◌||◌, List, ℕ, ◌+◌, ◌-◌, ◌≤◌, get_or, eqb}
use Rattle.rules.specs.Slots.{sum, over}
use Rattle.rows.specs.Bits.{has}
use Rattle.rows.specs.Sets.{Holds}
use Rattle.chart.specs.Arrays.{weight_in}
use Rattle.half.specs.Weights.{largest_sum}
use Rattle.forced.specs.declared.forcing.Forced.{Forced}
use Rattle.chart.specs.Chart.{BySlot}
use Rattle.half.specs.declared.opened.Half.{Half}

-- i and j are different, and each is known before the other.
unfoldable pub clashes_in : List ℕ → ℕ → ℕ → Bool
clashes_in t i j = not (eqb i j) && (has (get_or t i 0) j && has (get_or t j 0) i)

-- The weight of everything, and of a set of options with a set of orderings.
abbrev pub whole_weight : BySlot → ℕ
whole_weight chart = sum chart.option_count (weight_in chart.weights) + sum chart.ordering_count (weight_in chart.ordering_weights)

abbrev pub weight_of_sets : BySlot → (p q : ℕ → Bool) → ℕ
weight_of_sets chart p q = over chart.option_count (weight_in chart.weights) p + over chart.ordering_count (weight_in chart.ordering_weights) q

-- What is open weighs no more than what is not dropped; numbers stay small.
pub record OpenFits (chart : BySlot) (h : Half) : Type 0 where
  pub fits : weight_of_sets chart (has h.open_options) (has h.open_orderings) ≤ h.upper
  pub lower : h.lower ≤ largest_sum
  pub upper : h.upper ≤ largest_sum

-- The half-decided sheet of a chart that forced decisions leave.
pub record HalfDecidedAs (chart : BySlot) (f : Forced) (h : Half) : Type 0 where
  pub options : Holds h.open_options chart.option_count (λ i. not (has f.kept i || has f.dropped i))
  pub orderings : Holds h.open_orderings chart.ordering_count (λ u. not (has f.kept_orderings u || has f.dropped_orderings u))
  pub knows : h.known ≡ f.known
  pub lower : h.lower ≡ weight_of_sets chart (has f.kept) (has f.kept_orderings)
  pub upper : h.upper ≡ whole_weight chart - weight_of_sets chart (has f.dropped) (has f.dropped_orderings)
  pub roomy : OpenFits chart h
