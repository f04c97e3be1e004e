-- What is wanted is no more than the goal with the tolerance.
use Rattle.std.specs.Prelude.{Bool, true, false, cond, ℕ, ◌+◌, ◌≤◌, is_some}
use Rattle.std.proofs.Common.{arith}
use Rattle.so_far.specs.State.{wanted}
use Rattle.so_far.specs.declared.so_far.SoFar.{SoFar}

pub wanted_below : (a : SoFar) (tolerance : ℕ) → wanted a tolerance ≤ a.goal + tolerance
unfolding wanted
wanted_below a tolerance = go (is_some a.find)
  where
    go : (x : Bool) → cond x (a.goal + tolerance) a.goal ≤ a.goal + tolerance
    go true = omega arith
    go false = omega arith
