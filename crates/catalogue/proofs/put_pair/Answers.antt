-- A pair of which one is no slot says nothing in the first n rows and columns.
use native.Mathlib.Omega.{arith}
use Rattle.catalogue.specs.laws.Catalogue.{pair_put}
use Rattle.catalogue.proofs.put_pair.Goals as goal

pub returns-then-j-n : goal.returns-then-j-n
returns-then-j-n c = pair_put _ _ _ _ (omega arith) c.put.ensures
