-- The lines from i on remain to be printed.
use Rattle.std.proofs.Common.{◌-◌}
use Rattle.sheet.specs.Text.{options_text}
use Rattle.print.proofs.PageLaws.{Remains}
use Rattle.text.proofs.put.put_options.Given as goal

abbrev pub invariant-loop-i : goal.invariant-loop-i
invariant-loop-i l = Remains l.initial.page l.page (options_text l.s.option_count 0 l.s.numbers l.s.weights) (options_text (l.s.option_count - l.i) l.i l.s.numbers l.s.weights)
