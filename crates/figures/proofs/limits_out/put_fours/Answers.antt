-- Each turn writes the four limits of one item.
use mathlib.Core.Path.{refl}
use Rattle.entries.specs.laws.Put.{spread_nothing, spread_next}
use Rattle.figures.proofs.limits_out.put_fours.Goals as goal

pub loop-i-init : goal.loop-i-init
loop-i-init g c = spread_nothing 4 _ _ (λ j. refl) _

pub loop-i-preserved : goal.loop-i-preserved
loop-i-preserved g c = spread_next 4 _ _ (λ j. refl) _ c.loop-i.invariant refl c.put_four.ensures
