-- Each turn writes one decision.
use mathlib.Core.Path.{refl}
use Rattle.entries.specs.laws.Put.{filled_nothing, filled_next}
use Rattle.decisions.proofs.decisions_out.put_list.Goals as goal

pub loop-i-init : goal.loop-i-init
loop-i-init g c = filled_nothing _ _ _

pub loop-i-preserved : goal.loop-i-preserved
loop-i-preserved g c = filled_next _ _ _ c.loop-i.invariant refl c.byte_of.ensures
