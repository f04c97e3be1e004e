-- Each turn writes one row: what it holds among the kept options, or nothing if its own option is not kept.
use Rattle.sequence.specs.Edges.{BetweenKept}
use Rattle.sequence.proofs.edges.between_kept.Given as goal

abbrev pub invariant-loop-i : goal.invariant-loop-i
invariant-loop-i l = BetweenKept l.t l.kept l.i l.between
