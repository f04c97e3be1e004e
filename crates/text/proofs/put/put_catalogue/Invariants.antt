-- The lines from i on remain to be printed.
use Rattle.std.proofs.Common.{◌-◌}
use Rattle.sheet.specs.Text.{catalogue_text}
use Rattle.print.proofs.PageLaws.{Remains}
use Rattle.text.proofs.put.put_catalogue.Given as goal

abbrev pub invariant-loop-i : goal.invariant-loop-i
invariant-loop-i l = Remains l.initial.page l.page (catalogue_text l.s.catalogue_lines 0 l.s.letters l.s.befores l.s.afters) (catalogue_text (l.s.catalogue_lines - l.i) l.i l.s.letters l.s.befores l.s.afters)
