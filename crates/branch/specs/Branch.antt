-- What the recursive branch promises.
use Rattle.std.specs.Prelude.{◌≡◌, Bool, List, ℕ, ◌+◌, ◌≤◌, None}
use Rattle.rules.specs.Lines.{Lines}
use Rattle.rules.specs.Relaxation.{ConsistentRelaxation, value_of}
use Rattle.rules.specs.laws.search.Finds.{Finds}
use Rattle.half.specs.Weights.{largest_sum}
use Rattle.given.specs.declared.sets.Given.{Given}
use Rattle.chart.specs.Chart.{BySlot, ShowsSheet}
use Rattle.keeping.specs.Sets.{decisions_of}
use Rattle.so_far.specs.declared.so_far.SoFar.{SoFar}
use Rattle.branch.specs.Shown.{shown}

-- From any decisions and anything found so far: what the rules of the search allow it to find, if nothing is worth more than the ceiling.
pub record Branched (chart : BySlot) (tolerance ceiling : ℕ) (g : Given) (a r : SoFar) : Type 0 where
  pub goal : r.goal ≤ largest_sum + 1
  pub unfound : r.find ≡ None → r ≡ a
  pub finds : (s : Lines) → ShowsSheet s chart → ((q : List Bool) → ConsistentRelaxation s q → value_of s q ≤ ceiling)
      → Finds (value_of s) (ConsistentRelaxation s) tolerance (decisions_of chart g) (shown chart.option_count chart.ordering_count a) (shown chart.option_count chart.ordering_count r)
