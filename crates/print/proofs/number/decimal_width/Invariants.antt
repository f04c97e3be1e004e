-- Each turn takes the last digit away and counts it.
use Prim.Native.Nat.{◌+◌, ◌≤◌}
use mathlib.Core.Path.{◌≡◌}
use lib.ListN.{length}
use Rattle.shape.specs.LineText.{decimal}
use Rattle.print.proofs.number.decimal_width.Given as goal

abbrev pub invariant-loop-rest : goal.invariant-loop-rest
invariant-loop-rest l = (l.width + length (decimal l.rest) ≡ 1 + length (decimal l.n)) × (l.width + l.rest ≤ 1 + l.n)

abbrev pub decreases-loop-rest : goal.decreases-loop-rest
decreases-loop-rest l = l.rest
