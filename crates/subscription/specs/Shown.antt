-- What is worked out once for a sheet, in the words of its arrays.
use Rattle.std.specs.Prelude.{List, ℕ}
use Rattle.rules.specs.Lines.{Lines}
use Rattle.rules.specs.Subscription.{subscription}
use Rattle.graph.specs.Graph.{EndsAreSlots}
use Rattle.graph.specs.Shown.{Shows}
use Rattle.chart.specs.Arrays.{HasWeights, ShowLines}
use Rattle.sheet.specs.Lines.{lines_of}
use Rattle.sheet.specs.Recorded.{Recorded}
use Rattle.sheet.specs.declared.sheet.Sheet.{Sheet}

-- The record obeys the rule, and its orderings by slot and its catalogue's rows show its subscription.
pub record ShownBy (s : Sheet) (rows firsts seconds : List ℕ) : Type 0 where
  pub recorded : Recorded s
  pub ends : EndsAreSlots s.option_count s.ordering_count firsts seconds
  pub shows : Shows (subscription (lines_of s)) s.option_count s.ordering_count firsts seconds rows

-- The arrays are those of some sheet.
pub record Arrays (n m : ℕ) (firsts seconds rows ws bs : List ℕ) : Type 0 where
  pub ends : EndsAreSlots n m firsts seconds
  pub weights : HasWeights n m ws bs
  pub lines : Lines
  pub of : ShowLines lines n m firsts seconds rows ws bs
