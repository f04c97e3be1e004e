-- Row c itself stays as it was while the other rows take it in, so each row is joined with the old row c.
use mathlib.Core.Path.{refl, ◌∙◌}
use native.Mathlib.Omega.{arith}
use Rattle.graph.specs.laws.Graph.{joined_through_none, joined_through_step}
use Rattle.graph.proofs.join_through.Goals as goal

pub loop-i-init : goal.loop-i-init
loop-i-init c = (refl, joined_through_none _ _ (omega arith))

pub loop-i-preserved : goal.loop-i-preserved
loop-i-preserved c = (c.loop-i.invariant.0, joined_through_step _ _ c.loop-i.invariant.1 (omega arith) c.get.ensures (c.join_if.ensures ∙ rw c.loop-i.invariant.0 refl))
