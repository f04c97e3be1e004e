-- Values: of the best relaxation, of a first one, and what a search starts from.
use Rattle.std.specs.Prelude.{◌≡◌, Bool, List, ℕ, ◌≤◌}
use Rattle.rules.specs.Lines.{Lines}
use Rattle.rules.specs.Relaxation.{ConsistentRelaxation, value_of}
use Rattle.rules.specs.laws.search.Valued.{Valued}
use Rattle.rules.specs.laws.search.Answers.{GoodFloor}
use Rattle.half.specs.Weights.{largest_sum}
use Rattle.given.specs.declared.sets.Given.{Given}
use Rattle.chart.specs.Chart.{BySlot, ShowsSheet}
use Rattle.keeping.specs.Sets.{decisions_of}
use Rattle.value.specs.declared.bounds.Bounds.{Bounds}

-- The greater of the floor and the best value among what agrees with the decisions.
pub record ValuedAs (chart : BySlot) (floor : ℕ) (g : Given) (w : ℕ) : Type 0 where
  pub small : w ≤ largest_sum
  pub valued : (s : Lines) → ShowsSheet s chart → (stop : ℕ) → Valued (value_of s) (ConsistentRelaxation s) stop floor (decisions_of chart g) w

-- Some consistent relaxation is worth just that.
pub record Reached (chart : BySlot) (w : ℕ) : Type 0 where
  pub small : w ≤ largest_sum
  pub reached : (s : Lines) → ShowsSheet s chart → (q : List Bool) × ConsistentRelaxation s q × (value_of s q ≡ w)

-- No consistent relaxation is worth more.
pub record Above (chart : BySlot) (w : ℕ) : Type 0 where
  pub small : w ≤ largest_sum
  pub above : (s : Lines) → ShowsSheet s chart → (q : List Bool) → ConsistentRelaxation s q → value_of s q ≤ w

-- A ceiling over all, and a floor from which the search finds an answer to the tolerance.
pub record BoundsAs (chart : BySlot) (tolerance : ℕ) (b : Bounds) : Type 0 where
  pub ceiling : Above chart b.ceiling
  pub small : b.floor ≤ largest_sum
  pub floor : (s : Lines) → ShowsSheet s chart → GoodFloor s tolerance b.floor
