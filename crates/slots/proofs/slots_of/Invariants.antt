-- Each turn reads one slot off the table.
use Rattle.slots.specs.Slots.{SlotsBy}
use Rattle.slots.proofs.slots_of.Given as goal

abbrev pub invariant-loop-u : goal.invariant-loop-u
invariant-loop-u l = SlotsBy l.table l.ends l.u l.slots
