-- A charge is the weight of a set; what is given up with i is the charge of the set {i}. Both are open, so nothing is cut off.
use mathlib.Core.Path.{sym, subst, ◌∙◌}
use Prim.Native.Nat.{◌≤◌}
use Rattle.cells.proofs.laws.Charges.{charge_fits}
use Rattle.cells.proofs.laws.Cells.{open_option_limit, decided_option_limit}
use Rattle.chart.specs.Chart.{by_slot}
use Rattle.cells.proofs.cells.option_limit.Goals as goal

pub returns-then-not-get : goal.returns-then-not-get
returns-then-not-get c = c.no_limit.ensures ∙ decided_option_limit (by_slot c.args.chart.now) c.args.h.now _ (sym c.get.ensures ∙ c.if-not-get.true)

pub overflow_sub-result : goal.overflow_sub-result
overflow_sub-result c = subst (λ z. z ≤ c.args.h.now.upper) (sym c.weight_with_orderings-charged.ensures.0) (charge_fits (by_slot c.args.chart.now) c.args.h.now c.requires.open_fits.0 _)

pub overflow_sub-result-2 : goal.overflow_sub-result-2
overflow_sub-result-2 c = subst (λ z. z ≤ c.args.h.now.upper) (sym c.weight_with_orderings-forgone.ensures.0) (charge_fits (by_slot c.args.chart.now) c.args.h.now c.requires.open_fits.0 _)

pub returns : goal.returns
returns c = rw c.from.ensures (open_option_limit (by_slot c.args.chart.now) c.args.h.now c.args.chart.now.ends _ (sym c.get.ensures ∙ c.if-not-get.false) c.clash_row-clash.ensures c.put.ensures c.weight_with_orderings-charged.ensures.0 c.weight_with_orderings-forgone.ensures.0)
