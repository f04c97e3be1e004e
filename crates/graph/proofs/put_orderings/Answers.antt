-- Each turn puts one ordering into the row of its first option, and touches no other row.
use mathlib.Core.Path.{refl, ◌∙◌}
use native.Mathlib.Omega.{arith}
use Rattle.graph.specs.laws.Graph.{with_orderings_none, with_orderings_step}
use Rattle.graph.proofs.put_orderings.Goals as goal

pub loop-u-init : goal.loop-u-init
loop-u-init c = with_orderings_none _ _ _ _ (omega arith)

pub loop-u-preserved : goal.loop-u-preserved
loop-u-preserved c = rw c.from-from.ensures (with_orderings_step _ _ _ _ c.loop-u.invariant c.get.ensures (omega (arith, c.requires.first _ c.loop-u-test.true)) (c.put_if.ensures ∙ rw (c.from-from.ensures, c.from.ensures) refl))
