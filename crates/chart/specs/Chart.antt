-- What a chart holds, the sheets that it shows, and what every chart knows of them.
use Rattle.std.specs.Prelude.{List, ℕ}
use Rattle.rules.specs.Lines.{Lines}
use Rattle.graph.specs.Graph.{EndsAreSlots}
use Rattle.chart.specs.Arrays.{HasWeights, ShowLines, OfSomeSheet}
use Rattle.chart.specs.declared.chart.Chart.{Chart}

-- Counts and arrays by slot, whatever is known of them: a law asks for what it needs of them, and holds of any.
pub record BySlot : Type 0 where
  pub option_count : ℕ
  pub ordering_count : ℕ
  pub rows : List ℕ
  pub firsts : List ℕ
  pub seconds : List ℕ
  pub weights : List ℕ
  pub ordering_weights : List ℕ

-- Those of a chart.
abbrev pub by_slot : Chart → BySlot
by_slot chart = record {
  option_count = chart.option_count;
  ordering_count = chart.ordering_count;
  rows = chart.rows;
  firsts = chart.firsts;
  seconds = chart.seconds;
  weights = chart.weights;
  ordering_weights = chart.ordering_weights;
}

-- They show a sheet's lines.
abbrev pub ShowsSheet : Lines → BySlot → Type 0
ShowsSheet s chart = ShowLines s chart.option_count chart.ordering_count chart.firsts chart.seconds chart.rows chart.weights chart.ordering_weights

-- Some sheet that they show.
abbrev pub ASheet : BySlot → Type 0
ASheet chart = OfSomeSheet chart.option_count chart.ordering_count chart.firsts chart.seconds chart.rows chart.weights chart.ordering_weights

-- What every chart knows of its own.
pub record Known (chart : BySlot) : Type 0 where
  pub ends : EndsAreSlots chart.option_count chart.ordering_count chart.firsts chart.seconds
  pub has_weights : HasWeights chart.option_count chart.ordering_count chart.weights chart.ordering_weights
  pub of_a_sheet : ∥ ASheet chart ∥₁

abbrev pub known_of : (chart : Chart) → Known (by_slot chart)
known_of chart = record { ends = chart.ends; has_weights = chart.has_weights; of_a_sheet = chart.of_a_sheet }
