-- Each turn writes one entry.
use Rattle.std.proofs.Common.{◌≡◌}
use Rattle.rules.specs.Forced.{decision_of}
use Rattle.rows.specs.Bits.{has}
use Rattle.given.specs.Given.{undecided, choice_of}
use Rattle.given.specs.Filled.{filled}
use Rattle.given.proofs.decided.all_decided.Given as goal

abbrev pub invariant-loop-i : goal.invariant-loop-i
invariant-loop-i g l = l.list ≡ filled g.row.N l.i (λ j. choice_of (decision_of (has (g.S.Slots.bits l.kept) j) (has (g.S.Slots.bits l.dropped) j))) undecided
