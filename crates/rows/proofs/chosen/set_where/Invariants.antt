-- Slots below i are in as the test says, and none from i on.
use Rattle.std.proofs.Common.{◌≡◌, ◌<◌, ◌≤◌, ℕ, false}
use Rattle.rows.specs.Bits.{has}
use Rattle.rows.proofs.chosen.set_where.Given as goal

abbrev pub invariant-loop-i : goal.invariant-loop-i
invariant-loop-i g l =
    ((k : ℕ) → k < l.i → goal.F-post g l.test k (has (g.S.Slots.bits l.set) k))
    × ((k : ℕ) → l.i ≤ k → has (g.S.Slots.bits l.set) k ≡ false)
