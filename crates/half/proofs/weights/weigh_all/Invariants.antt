-- Each turn adds the weight of one slot.
use mathlib.Core.Path.{◌≡◌}
use Prim.Native.Nat.{◌*◌, ◌≤◌}
use lib.ListN.{get_or}
use Rattle.rules.specs.Slots.{sum}
use Rattle.half.proofs.weights.weigh_all.Given as goal

abbrev pub invariant-loop-i : goal.invariant-loop-i
invariant-loop-i l = (l.total ≤ 65535 * l.i) × (l.total ≡ sum l.i (λ j. get_or l.w j 0))
