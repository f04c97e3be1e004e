-- From a first value that is reached the pass comes to the best value.
use mathlib.Core.Path.{sym, subst}
use Rattle.keeping.specs.Sets.{Apart}
use Rattle.keeping.specs.laws.Apart.{nothing_apart}
use Rattle.value.specs.laws.Whole.{best_is_reached, best_is_above}
use Rattle.value.proofs.bounds.best_of_all.Goals as goal

pub dive-floor-requires : goal.dive-floor-requires
dive-floor-requires c = subst (Apart _) (sym c.nothing_given-g.ensures) (nothing_apart _)

pub best_value-requires : goal.best_value-requires
best_value-requires c = (subst (Apart _) (sym c.nothing_given-g.ensures) (nothing_apart _), c.dive-floor.ensures.small)

pub returns : goal.returns
returns c = (best_is_reached _ _ c.nothing_given-g.ensures _ _ c.dive-floor.ensures c.best_value.ensures, best_is_above _ _ c.nothing_given-g.ensures _ _ c.best_value.ensures)
