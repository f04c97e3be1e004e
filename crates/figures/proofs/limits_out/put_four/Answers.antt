-- Four stores.
use Rattle.entries.specs.laws.Put.{put_four}
use Rattle.figures.proofs.limits_out.put_four.Goals as goal

pub returns : goal.returns
returns c = put_four _ _ _ _ _ _
