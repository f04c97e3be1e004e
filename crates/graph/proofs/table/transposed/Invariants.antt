-- Each turn writes one entry, and touches no other.
use Rattle.graph.specs.Transposed.{Transposed}
use Rattle.graph.proofs.table.transposed.Given as goal

abbrev pub invariant-loop-j : goal.invariant-loop-j
invariant-loop-j l = Transposed l.known l.n l.j l.table
