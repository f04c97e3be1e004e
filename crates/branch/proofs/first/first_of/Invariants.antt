-- No slot before i is in the set, so the first that is found is the smallest.
use Rattle.std.specs.Prelude.{◌≡◌, ℕ, ◌<◌, false}
use Rattle.rows.specs.Bits.{has}
use Rattle.branch.proofs.first.first_of.Given as goal

abbrev pub invariant-loop-i : goal.invariant-loop-i
invariant-loop-i g l = (j : ℕ) → j < l.i → has (g.S.Slots.bits l.set) j ≡ false
