-- The size so far and the length of the lines from i on add up to the length of all.
use Rattle.std.proofs.Common.{◌≡◌, ◌≤◌, ◌+◌, ◌-◌, ◌*◌, length}
use Rattle.sheet.specs.Text.{orderings_text}
use Rattle.text.proofs.size.orderings_size.Given as goal

abbrev pub invariant-loop-i : goal.invariant-loop-i
invariant-loop-i l = (l.size ≤ 65 * l.i) × (length (orderings_text l.s.ordering_count 0 l.s.firsts l.s.seconds l.s.ordering_weights) ≡ l.size + length (orderings_text (l.s.ordering_count - l.i) l.i l.s.firsts l.s.seconds l.s.ordering_weights))
