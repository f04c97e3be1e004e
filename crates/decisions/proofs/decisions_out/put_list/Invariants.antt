-- Each turn writes one decision.
use lib.ListN.{get_or}
use Rattle.given.specs.Given.{undecided}
use Rattle.decisions.specs.Decisions.{byte_of}
use Rattle.entries.specs.laws.Put.{Filled}
use Rattle.decisions.proofs.decisions_out.put_list.Given as goal

abbrev pub invariant-loop-i : goal.invariant-loop-i
invariant-loop-i g l = Filled l.at (λ j. byte_of (get_or l.decisions j undecided)) l.i l.initial.out l.out
