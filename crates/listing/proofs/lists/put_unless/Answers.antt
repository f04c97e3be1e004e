-- A line that is skipped is printed as nothing.
use Rattle.listing.specs.laws.Each.{skipped_line}
use Rattle.listing.proofs.lists.put_unless.Goals as goal

pub returns-else-not-skip : goal.returns-else-not-skip
returns-else-not-skip c = skipped_line _ _ c.if-not-skip.false
