-- Row c itself stays as it was while the other rows take it in, so each row is joined with the old row c.
use mathlib.Core.Path.{◌≡◌}
use lib.ListN.{get_or}
use Rattle.graph.specs.Graph.{JoinedThrough}
use Rattle.graph.proofs.join_through.Given as goal

abbrev pub invariant-loop-i : goal.invariant-loop-i
invariant-loop-i l = (l.from ≡ get_or l.t l.c 0) × JoinedThrough l.t l.c l.i l.table
