-- Each turn adds the weight of one slot, if the set holds it.
use mathlib.Core.Path.{◌≡◌}
use Prim.Native.Nat.{◌*◌, ◌≤◌}
use lib.ListN.{get_or}
use Rattle.rules.specs.Slots.{over}
use Rattle.rows.specs.Bits.{has}
use Rattle.half.proofs.weights.weigh.Given as goal

abbrev pub invariant-loop-i : goal.invariant-loop-i
invariant-loop-i l = (l.total ≤ 65535 * l.i) × (l.total ≡ over l.i (λ j. get_or l.w j 0) (has l.set))
