-- Each turn writes one entry, and touches no other.
use Rattle.graph.specs.laws.Transposed.{transposed_none, transposed_step}
use native.Mathlib.Omega.{arith}
use Rattle.graph.proofs.table.transposed.Goals as goal

pub loop-j-init : goal.loop-j-init
loop-j-init c = transposed_none _ _

pub loop-j-preserved : goal.loop-j-preserved
loop-j-preserved c = transposed_step _ _ c.loop-j.invariant (omega arith) c.column.ensures
