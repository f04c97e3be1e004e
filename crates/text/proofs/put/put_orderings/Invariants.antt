-- The lines from i on remain to be printed.
use Rattle.std.proofs.Common.{◌-◌}
use Rattle.sheet.specs.Text.{orderings_text}
use Rattle.print.proofs.PageLaws.{Remains}
use Rattle.text.proofs.put.put_orderings.Given as goal

abbrev pub invariant-loop-i : goal.invariant-loop-i
invariant-loop-i l = Remains l.initial.page l.page (orderings_text l.s.ordering_count 0 l.s.firsts l.s.seconds l.s.ordering_weights) (orderings_text (l.s.ordering_count - l.i) l.i l.s.firsts l.s.seconds l.s.ordering_weights)
