-- Each turn puts one ordering into the row of its first option, and touches no other row.
use Rattle.graph.specs.Graph.{WithOrderings}
use Rattle.graph.proofs.put_orderings.Given as goal

abbrev pub invariant-loop-u : goal.invariant-loop-u
invariant-loop-u l = WithOrderings l.initial.table l.kept_orderings l.first l.second l.u l.table
