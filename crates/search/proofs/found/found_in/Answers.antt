-- What the branch leaves is an answer by the law `found_answers`.
use mathlib.Core.Path.{sym, subst, ap}
use native.Mathlib.Omega.{arith}
use Rattle.keeping.specs.Sets.{Apart}
use Rattle.keeping.specs.laws.Apart.{nothing_apart}
use Rattle.search.specs.laws.Found.{found_answers}
use Rattle.search.proofs.found.found_in.Goals as goal

pub branch-chart-requires : goal.branch-chart-requires
branch-chart-requires c = (subst (Apart _) (sym c.nothing_given-g.ensures) (nothing_apart _), (let e = ap (λ z. z.goal) c.nothing_found-found.ensures in let k = c.bounds_of-bounds.ensures.small in omega arith), c.requires)

pub returns : goal.returns
returns c = found_answers _ _ _ c.bounds_of-bounds.ensures _ c.nothing_given-g.ensures _ _ c.nothing_found-found.ensures c.branch-chart.ensures _ c.kept.ensures _ _ c.worth-value.ensures c.min.ensures
