-- Each turn writes one number of two bytes.
use mathlib.Core.Path.{refl}
use Rattle.entries.specs.laws.Put.{spread_nothing, spread_next}
use Rattle.fields_out.proofs.record_out.put_twos.Goals as goal

pub loop-i-init : goal.loop-i-init
loop-i-init g c = spread_nothing 2 _ _ (λ j. refl) _

pub loop-i-preserved : goal.loop-i-preserved
loop-i-preserved g c = spread_next 2 _ _ (λ j. refl) _ c.loop-i.invariant refl c.put_two.ensures
