-- The length decides.
use mathlib.Core.Path.{refl}
use Rattle.wire.specs.laws.Lent.{lent_done}
use Rattle.wire.proofs.outputs.lent.Goals as goal

pub returns : goal.returns
returns c = lent_done _ _ _ c.if_it_fits.ensures refl
