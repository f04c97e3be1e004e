-- The chart of a record.
use Rattle.std.specs.Prelude.{◌≡◌}
use Rattle.chart.specs.Chart.{BySlot, ShowsSheet}
use Rattle.sheet.specs.Lines.{lines_of}
use Rattle.sheet.specs.Recorded.{Recorded}
use Rattle.sheet.specs.declared.sheet.Sheet.{Sheet}

-- The record obeys the rule, and the chart has its counts and shows its sheet.
pub record Charted (s : Sheet) (chart : BySlot) : Type 0 where
  pub recorded : Recorded s
  pub options : chart.option_count ≡ s.option_count
  pub orderings : chart.ordering_count ≡ s.ordering_count
  pub shows : ShowsSheet (lines_of s) chart
