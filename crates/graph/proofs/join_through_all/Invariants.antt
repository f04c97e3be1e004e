-- Each middle is joined through once, in slot order, as `through` does.
use Rattle.graph.specs.Graph.{JoinedThroughAll}
use Rattle.graph.proofs.join_through_all.Given as goal

abbrev pub invariant-loop-c : goal.invariant-loop-c
invariant-loop-c l = JoinedThroughAll l.initial.table l.middles l.n l.c l.table
