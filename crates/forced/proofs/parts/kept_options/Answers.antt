-- Each turn puts in both options of one ordering, if it is kept.
use Rattle.forced.specs.laws.Kept.{kept_with_ends_none, kept_with_ends_step}
use Rattle.forced.proofs.parts.kept_options.Goals as goal

pub loop-u-init : goal.loop-u-init
loop-u-init c = kept_with_ends_none _ _ _ _

pub loop-u-preserved : goal.loop-u-preserved
loop-u-preserved c = kept_with_ends_step _ _ _ _ c.loop-u.invariant c.get-yes.ensures c.from-first.ensures c.from-second.ensures c.put_if.ensures c.put_if-kept.ensures
