-- What is found so far is an option, and after that an item of the sheet.
use Rattle.std.proofs.Common.{◌+◌, ◌<◌, IfSome}
use Rattle.chains.proofs.walk.best_of.Given as goal

abbrev pub invariant-loop-i : goal.invariant-loop-i
invariant-loop-i l = IfSome l.best (λ i. i < 32)

abbrev pub invariant-loop-u : goal.invariant-loop-u
invariant-loop-u l = IfSome l.best (λ i. i < 32 + l.chart.ordering_count)
