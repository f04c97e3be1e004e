-- The refusals are tested in the table's order; then the chart shows the sheet's subscription, and the laws `sequence_found` and `sequence_missing` say the rest.
use mathlib.Core.Path.{sym, ◌∙◌}
use Rattle.sequence.specs.laws.Answer.{sequence_not_recorded, sequence_decided_past, sequence_open_within, sequence_found, sequence_missing}
use Rattle.sheet.proofs.ObeyLaws.{recorded_limits}
use Rattle.sequence.proofs.answer.sequence.Goals.{then-has_decision_past-via-then-has_decision_past, then-has_decision_past-via-else-has_decision_past+then-has_open_item}
use Rattle.sequence.proofs.answer.sequence.Goals as goal

pub returns-then-not-is_recorded : goal.returns-then-not-is_recorded
returns-then-not-is_recorded c = c.refused.ensures ∙ sequence_not_recorded c.args.sheet c.args.decisions (sym c.is_recorded.ensures ∙ c.if-not-is_recorded.true)

pub has_open_item-requires : goal.has_open_item-requires
has_open_item-requires c = (recorded_limits c.args.sheet (sym c.is_recorded.ensures ∙ c.if-not-is_recorded.false)).1

pub returns-then-has_decision_past : goal.returns-then-has_decision_past
returns-then-has_decision_past c = c.refused-then-has_decision_past.ensures ∙ elim c.then-has_decision_past.branch [
  | then-has_decision_past-via-then-has_decision_past w ↦ sequence_decided_past c.args.sheet c.args.decisions (sym c.is_recorded.ensures ∙ c.if-not-is_recorded.false) (sym c.has_decision_past.ensures ∙ w.if-has_decision_past.true)
  | then-has_decision_past-via-else-has_decision_past+then-has_open_item w ↦ sequence_open_within c.args.sheet c.args.decisions (sym c.is_recorded.ensures ∙ c.if-not-is_recorded.false) (sym c.has_decision_past.ensures ∙ w.if-has_decision_past.false) (sym w.has_open_item.ensures ∙ w.if-has_open_item.true)
]

pub returns-in_default : goal.returns-in_default
returns-in_default c = c.refused-in_default.ensures ∙ sequence_missing c.args.sheet c.args.decisions (sym c.is_recorded.ensures ∙ c.if-not-is_recorded.false) (sym c.has_decision_past.ensures ∙ c.if-has_decision_past.false) (sym c.has_open_item.ensures ∙ c.if-has_open_item.false) _ _ _ c.chart_of-chart.ensures c.given_sets-sets.ensures c.sequence_of.ensures c.in_default.is

pub returns : goal.returns
returns c = sequence_found c.args.sheet c.args.decisions (sym c.is_recorded.ensures ∙ c.if-not-is_recorded.false) (sym c.has_decision_past.ensures ∙ c.if-has_decision_past.false) (sym c.has_open_item.ensures ∙ c.if-has_open_item.false) _ _ _ c.chart_of-chart.ensures c.given_sets-sets.ensures c.sequence_of.ensures c.in-Some.is
