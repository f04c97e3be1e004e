-- Each turn writes one weight, if the item is open.
use Rattle.residual.specs.Started.{StartsAs}
use Rattle.residual.proofs.starting.weights_of.Given as goal

abbrev pub invariant-loop-i : goal.invariant-loop-i
invariant-loop-i g l = StartsAs (g.S.Slots.bits l.set) l.weights g.row.N l.i l.left
