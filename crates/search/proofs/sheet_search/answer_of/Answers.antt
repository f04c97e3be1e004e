-- The chart shows the sheet, so its answer is the sheet's.
use Rattle.chart.specs.Chart.{by_slot}
use Rattle.search.specs.laws.Answered.{answers_of}
use Rattle.search.proofs.sheet_search.answer_of.Goals as goal

pub returns : goal.returns
returns c = let shown = c.chart_of-chart.ensures in answers_of c.args.s _ (by_slot c.chart_of-chart.result) shown.options shown.orderings shown.shows _ c.found_in-f.ensures c.accepted.ensures
