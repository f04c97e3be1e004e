-- The arrays worked out for a record that obeys the rule show its subscription, and so do those of its chart.
use Rattle.std.specs.Prelude.{List, ℕ}
use Rattle.std.proofs.Common.{subst}
use Rattle.rules.specs.Subscription.{subscription}
use Rattle.graph.specs.Graph.{EndsAreSlots}
use Rattle.graph.specs.Shown.{Shows}
use Rattle.chart.specs.Chart.{by_slot}
use Rattle.chart.specs.declared.chart.Chart.{Chart}
use Rattle.slots.specs.Slots.{SlotsOf}
use Rattle.catalogue.specs.Catalogue.{SaysCatalogue}
use Rattle.sheet.specs.Lines.{lines_of}
use Rattle.sheet.specs.Recorded.{Recorded}
use Rattle.sheet.specs.declared.sheet.Sheet.{Sheet}
use Rattle.subscription.specs.Charted.{Charted}
use Rattle.subscription.specs.Shown.{ShownBy}
use Rattle.subscription.specs.laws.Charted.{ends, show_lines}

module _ (s : Sheet) (R : Recorded s) (rows firsts seconds : List ℕ)
    (says : SaysCatalogue s.option_count s.numbers s.letters s.befores s.afters s.catalogue_lines rows)
    (is_firsts : SlotsOf s.option_count s.ordering_count s.numbers s.firsts firsts) (is_seconds : SlotsOf s.option_count s.ordering_count s.numbers s.seconds seconds) where
  pub shown_by : ShownBy s rows firsts seconds
  shown_by = record {
    recorded = R;
    ends = ends s R rows firsts seconds says is_firsts is_seconds;
    shows = (show_lines s R rows firsts seconds says is_firsts is_seconds).shows;
  }

pub shown_in_chart : (s : Sheet) (chart : Chart) → Charted s (by_slot chart) → ShownBy s chart.rows chart.firsts chart.seconds
shown_in_chart s chart charted = record {
  recorded = charted.recorded;
  ends = subst (λ k. EndsAreSlots k s.ordering_count chart.firsts chart.seconds) charted.options (subst (λ k. EndsAreSlots chart.option_count k chart.firsts chart.seconds) charted.orderings chart.ends);
  shows = subst (λ k. Shows (subscription (lines_of s)) k s.ordering_count chart.firsts chart.seconds chart.rows) charted.options
      (subst (λ k. Shows (subscription (lines_of s)) chart.option_count k chart.firsts chart.seconds chart.rows) charted.orderings charted.shows.shows);
}
