-- Each turn puts one slot at its number.
use Rattle.slots.specs.laws.Table.{TableBelow}
use Rattle.slots.proofs.slot_table.Given as goal

abbrev pub invariant-loop-i : goal.invariant-loop-i
invariant-loop-i l = TableBelow l.n l.i l.numbers l.table
