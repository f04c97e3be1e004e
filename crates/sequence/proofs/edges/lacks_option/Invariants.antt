-- Each turn adds one ordering to the question: is it kept, and one of its options not?
use Rattle.std.proofs.Common.{◌≡◌}
use Rattle.rules.specs.Slots.{some_below}
use Rattle.sequence.specs.Edges.{lacks}
use Rattle.sequence.proofs.edges.lacks_option.Given as goal

abbrev pub invariant-loop-u : goal.invariant-loop-u
invariant-loop-u l = l.lacking ≡ some_below l.u (lacks l.kept l.kept_orderings l.chart.firsts l.chart.seconds)
