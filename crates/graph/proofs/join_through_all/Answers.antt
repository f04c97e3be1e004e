-- Each middle is joined through once, in slot order, as `through` does.
use mathlib.Core.Path.{sym, ◌∙◌}
use native.Mathlib.Omega.{arith}
use Rattle.graph.specs.laws.Graph.{joined_through_all_none, joined_through_all_kept, joined_through_all_open}
use Rattle.graph.proofs.join_through_all.Goals as goal
use Rattle.graph.proofs.join_through_all.Goals.{then-get, else-get}

pub loop-c-init : goal.loop-c-init
loop-c-init c = joined_through_all_none _ _ _ (omega arith)

pub loop-c-preserved : goal.loop-c-preserved
loop-c-preserved c =
    elim c.if-get.branch [
      | then-get w ↦ rw w.table-is (joined_through_all_kept _ _ _ c.loop-c.invariant w.join_through-joined.ensures (omega arith) (omega arith) (sym c.get.ensures ∙ w.if-get.true))
      | else-get w ↦ rw w.table-is (joined_through_all_open _ _ _ c.loop-c.invariant (sym c.get.ensures ∙ w.if-get.false))
    ]
