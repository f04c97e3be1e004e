-- The best of the slots below i.
use Rattle.std.proofs.Common.{◌≡◌}
use Rattle.placing.specs.Next.{found_slot, smallest_below}
use Rattle.placing.proofs.place.next.Given as goal

abbrev pub invariant-loop-i : goal.invariant-loop-i
invariant-loop-i l = l.best ≡ found_slot (smallest_below l.t l.numbers l.n l.left l.i)
