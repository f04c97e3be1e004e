-- Each turn takes one decision.
use Prim.Native.Nat.{◌+◌}
use lib.ListN.{get_or}
use Rattle.entries.specs.laws.Taken.{Taken}
use Rattle.given.specs.Given.{undecided}
use Rattle.decisions.specs.Decisions.{choice_of}
use Rattle.decisions.proofs.decision_bytes.decisions_at.Given as goal

abbrev pub invariant-loop-i : goal.invariant-loop-i
invariant-loop-i g l = Taken g.row.N (λ j. choice_of (get_or l.bytes (l.at + j) 0)) undecided l.i l.decisions
