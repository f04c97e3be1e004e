-- The number of the refusal is the line's first.
use Rattle.report.proofs.page.put_refusal.Goals as goal

pub put_line-requires : goal.put_line-requires
put_line-requires c = rw c.number_of-number.ensures c.requires

pub returns : goal.returns
returns c = rw c.number_of-number.ensures at c.put_line.ensures
