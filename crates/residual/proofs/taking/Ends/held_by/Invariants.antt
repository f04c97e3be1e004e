-- Each turn adds one ordering more, if it touches the option.
use mathlib.Core.Path.{◌≡◌}
use Prim.Native.Nat.{◌≤◌, ◌*◌, ◌+◌}
use lib.ListN.{get_or}
use Rattle.rules.specs.Slots.{over}
use Rattle.residual.specs.Taken.{touches_in}
use Rattle.residual.proofs.taking.Ends.held_by.Given as goal

abbrev pub invariant-loop-u : goal.invariant-loop-u
invariant-loop-u l = (l.sum ≡ get_or l.options l.x 0 + over l.u (λ j. get_or l.orderings j 0) (touches_in l.self.first.now l.self.second.now l.x)) × (l.sum ≤ 65535 * (l.u + 1))
