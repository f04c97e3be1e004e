-- The graph is that of the rules, so its cycles and its sequence are.
use Rattle.sequence.specs.laws.Sequenced.{lacks_placed, cycle_placed, sequence_placed}
use Rattle.chart.specs.Chart.{by_slot}
use Rattle.sequence.proofs.whole.sequence_of.Goals.{then-lacks_option-via-then-lacks_option, then-lacks_option-via-else-lacks_option+then-has_cycle}
use Rattle.sequence.proofs.whole.sequence_of.Goals as goal

pub returns-then-lacks_option : goal.returns-then-lacks_option
returns-then-lacks_option c = elim c.then-lacks_option.branch [
  | then-lacks_option-via-then-lacks_option w ↦ lacks_placed (by_slot c.args.chart.now) c.args.numbers.now c.args.g c.args.chart.now.ends _ _ _ c.between_kept-between.ensures c.with_orderings-edges.ensures c.join_through_all-paths.ensures c.lacks_option.ensures w.if-lacks_option.true
  | then-lacks_option-via-else-lacks_option+then-has_cycle w ↦ cycle_placed (by_slot c.args.chart.now) c.args.numbers.now c.args.g c.args.chart.now.ends _ _ _ c.between_kept-between.ensures c.with_orderings-edges.ensures c.join_through_all-paths.ensures w.has_cycle.ensures w.if-has_cycle.true
]

pub returns : goal.returns
returns c = sequence_placed (by_slot c.args.chart.now) c.args.numbers.now c.args.g c.args.chart.now.ends _ _ _ c.between_kept-between.ensures c.with_orderings-edges.ensures c.join_through_all-paths.ensures c.lacks_option.ensures c.if-lacks_option.false c.has_cycle.ensures c.if-has_cycle.false c.place_all.ensures
