-- Two stores.
use Rattle.entries.specs.laws.Put.{put_two}
use Rattle.figures.proofs.totals_out.put_totals.Goals as goal

pub returns : goal.returns
returns c = put_two _ _ _
