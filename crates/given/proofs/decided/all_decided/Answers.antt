-- Each turn writes one entry.
use mathlib.Core.Path.{refl, ◌∙◌}
use native.Mathlib.Omega.{arith}
use Rattle.given.specs.laws.Filled.{filled_none, filled_step}
use Rattle.given.proofs.decided.all_decided.Goals as goal

pub loop-i-init : goal.loop-i-init
loop-i-init g c = filled_none g.row.N _ _

pub loop-i-preserved : goal.loop-i-preserved
loop-i-preserved g c = filled_step g.row.N _ _ c.loop-i.invariant (omega arith) (c.decided.ensures ∙ rw (c.get-in-loop-i.ensures, c.get.ensures) refl)
