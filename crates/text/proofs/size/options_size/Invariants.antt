-- The size so far and the length of the lines from i on add up to the length of all.
use Rattle.std.proofs.Common.{◌≡◌, ◌≤◌, ◌+◌, ◌-◌, ◌*◌, length}
use Rattle.sheet.specs.Text.{options_text}
use Rattle.text.proofs.size.options_size.Given as goal

abbrev pub invariant-loop-i : goal.invariant-loop-i
invariant-loop-i l = (l.size ≤ 65 * l.i) × (length (options_text l.s.option_count 0 l.s.numbers l.s.weights) ≡ l.size + length (options_text (l.s.option_count - l.i) l.i l.s.numbers l.s.weights))
