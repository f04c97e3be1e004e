-- The refusals are tested in the table's order; then the chart shows the sheet's subscription, and the law `limits_told` says the rest.
use mathlib.Core.Path.{sym, ◌∙◌}
use Rattle.limits.specs.laws.Answer.{limits_told, limits_not_recorded, limits_wrong_decisions}
use Rattle.limits.proofs.answer.limits.Goals as goal

pub returns-then-not-is_recorded : goal.returns-then-not-is_recorded
returns-then-not-is_recorded c = c.refused.ensures ∙ limits_not_recorded c.args.sheet c.args.decisions (sym c.is_recorded.ensures ∙ c.if-not-is_recorded.true)

pub returns-then-has_decision_past : goal.returns-then-has_decision_past
returns-then-has_decision_past c = c.refused-then-has_decision_past.ensures ∙ limits_wrong_decisions c.args.sheet c.args.decisions (sym c.is_recorded.ensures ∙ c.if-not-is_recorded.false) (sym c.has_decision_past.ensures ∙ c.if-has_decision_past.true)

pub returns : goal.returns
returns c = limits_told c.args.sheet c.args.decisions (sym c.is_recorded.ensures ∙ c.if-not-is_recorded.false) _ _ _ c.chart_of-chart.ensures c.given_sets.ensures c.limits_of.ensures (sym c.has_decision_past.ensures ∙ c.if-has_decision_past.false)
