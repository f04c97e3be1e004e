-- Each turn adds one slot to the question: do both sets hold it?
use Rattle.std.proofs.Common.{◌≡◌, ◌&&◌}
use Rattle.rules.specs.Slots.{some_below}
use Rattle.rows.specs.Bits.{has}
use Rattle.forced.proofs.parts.meets.Given as goal

abbrev pub invariant-loop-i : goal.invariant-loop-i
invariant-loop-i l = l.meet ≡ some_below l.i (λ k. has l.a k && has l.b k)
