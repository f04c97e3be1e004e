-- Entries below i are those of their slots, and the others still none.
use Rattle.std.proofs.Common.{◌≡◌, ◌<◌, ◌≤◌, ℕ, get_or, length}
use Rattle.cells.specs.Cells.{no_limit}
use Rattle.limits.proofs.whole.each_limit.Given as goal

abbrev pub invariant-loop-i : goal.invariant-loop-i
invariant-loop-i g l = (length l.limits ≡ g.row.N) × ((k : ℕ) → k < l.i → goal.F-post g l.limit k (get_or l.limits k no_limit)) × ((k : ℕ) → l.i ≤ k → get_or l.limits k no_limit ≡ no_limit)
