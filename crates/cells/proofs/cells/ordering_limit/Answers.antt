-- The charge is that of the options that clash with either end, each counted once; its own weight is open too.
use mathlib.Core.Path.{sym, subst, ◌∙◌}
use Prim.Native.Nat.{◌≤◌}
use lib.Dec.{T}
use Rattle.cells.proofs.laws.Charges.{charge_fits, own_weight_fits}
use Rattle.cells.proofs.laws.Cells.{open_ordering_limit, decided_ordering_limit}
use Rattle.chart.specs.Chart.{by_slot}
use Rattle.cells.proofs.cells.ordering_limit.Goals as goal

pub returns-then-not-get : goal.returns-then-not-get
returns-then-not-get c = c.no_limit.ensures ∙ decided_ordering_limit (by_slot c.args.chart.now) c.args.h.now _ (sym c.get.ensures ∙ c.if-not-get.true)

pub overflow_sub-result : goal.overflow_sub-result
overflow_sub-result c = subst (λ z. z ≤ c.args.h.now.upper) (sym c.weight_with_orderings-charged.ensures.0) (charge_fits (by_slot c.args.chart.now) c.args.h.now c.requires.open_fits.0 _)

pub overflow_sub-result-2 : goal.overflow_sub-result-2
overflow_sub-result-2 c = rw c.from-gain.ensures (own_weight_fits (by_slot c.args.chart.now) c.args.h.now c.requires.open_fits.0 _ c.requires.open_fits.1 (subst T (sym (sym c.get.ensures ∙ c.if-not-get.false)) tt))

pub returns : goal.returns
returns c = rw c.from-gain.ensures (open_ordering_limit (by_slot c.args.chart.now) c.args.h.now c.args.chart.now.ends _ (sym c.get.ensures ∙ c.if-not-get.false) c.from-first.ensures c.from-second.ensures c.clash_row-before.ensures c.clash_row-after.ensures c.join.ensures c.weight_with_orderings-charged.ensures.0 c.put.ensures c.put-2.ensures c.meet-ends.ensures (rw c.from.ensures at c.weigh-needed.ensures.0))
