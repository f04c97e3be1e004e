-- Each turn writes one row: what it holds among the kept options, or nothing if its own option is not kept.
use native.Mathlib.Omega.{arith}
use Rattle.sequence.specs.laws.Edges.{between_step}
use Rattle.sequence.proofs.edges.between_kept.Goals as goal

pub loop-i-preserved : goal.loop-i-preserved
loop-i-preserved c = between_step _ _ c.loop-i.invariant (omega arith) c.meet.ensures c.get.ensures c.join_if.ensures
