-- Each turn adds what one line says.
use native.Mathlib.Omega.{arith}
use Rattle.catalogue.specs.laws.Catalogue.{no_line_said, line_said}
use Rattle.catalogue.proofs.catalogue_rows.Goals as goal

pub loop-k-init : goal.loop-k-init
loop-k-init c = no_line_said _ _ _ _ _

pub loop-k-preserved : goal.loop-k-preserved
loop-k-preserved c =
    let x = c.type_inv.befores c.loop-k.k in
    let y = c.type_inv.afters c.loop-k.k in
    line_said _ _ _ _ _ c.loop-k.invariant (omega (arith, x)) (omega (arith, y))
    (rw (c.from-i.ensures, c.from.ensures, c.from-j.ensures, c.from-in-loop-k.ensures) at c.put_line-said.ensures)
