-- The numbers that are left, and the line end, remain to be printed.
use Rattle.std.proofs.Common.{drop}
use Rattle.shape.specs.LineText.{fields_text}
use Rattle.print.proofs.PageLaws.{Remains}
use Rattle.print.proofs.page.Page.put_line.Given as goal

abbrev pub invariant-loop-n : goal.invariant-loop-n
invariant-loop-n l = Remains l.initial.self l.self (fields_text l.numbers) (fields_text (drop l.n-index l.numbers))
