-- Each item found is one of the sheet.
use Rattle.std.proofs.Common.{◌+◌, ◌<◌}
use Rattle.chains.proofs.walk.walk_back.Given as goal

abbrev pub invariant-loop-l : goal.invariant-loop-l
invariant-loop-l l = l.item < 32 + l.chart.ordering_count
