-- The digits that are left give the same value and width, and five digits never reach 100,000.
use Rattle.std.proofs.Common.{◌≡◌, ◌+◌, ◌-◌, ◌≤◌, drop}
use Rattle.shape.specs.Number.{number_value, number_width}
use Rattle.shape.proofs.NumberLaws.{cap}
use Rattle.pieces.proofs.number.number_at.Given as goal

abbrev pub invariant-loop : goal.invariant-loop
invariant-loop l = (l.value ≤ cap l.counter) × (number_value 5 0 (drop l.at l.s) ≡ number_value (5 - l.counter) l.value (drop l.next l.s)) × (l.at + number_width 5 (drop l.at l.s) ≡ l.next + number_width (5 - l.counter) (drop l.next l.s))
