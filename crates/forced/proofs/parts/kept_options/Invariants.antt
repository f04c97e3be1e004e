-- Each turn puts in both options of one ordering, if it is kept.
use Rattle.forced.specs.Forced.{KeptWithEnds}
use Rattle.forced.proofs.parts.kept_options.Given as goal

abbrev pub invariant-loop-u : goal.invariant-loop-u
invariant-loop-u l = KeptWithEnds l.given l.kept_orderings l.chart.firsts l.chart.seconds l.u l.kept
