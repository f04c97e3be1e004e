-- The lines before the first misshapen one are all there, since it stands before the trailer.
use mathlib.Core.Path.{sym, ◌∙◌}
use native.Mathlib.Omega.{arith}
use lib.ListN.{take}
use Rattle.shape.specs.declared.shape.State.TheVariants.{Start}
use Rattle.shape.proofs.LineEndLaws.{scan_line}
use Rattle.reader.proofs.reading.read_body.Goals as goal

pub read_lines-requires-in-At : goal.read_lines-requires-in-At
read_lines-requires-in-At c = let g = c.args in
    let p = c.requires in
    let e = scan_line g.f g.u (take g.at g.s.now) 1 1 Start _ _ (sym c.first_misshapen.ensures ∙ c.in-At.is) in
    record { within_limits = record { ordered = p.within_limits.ordered; few_catalogue = p.within_limits.few_catalogue; few_options = p.within_limits.few_options; few_orderings = omega (arith, e.0, e.1, p.at_in_bounds, p.within_limits.few_orderings) }; stop_from_1 = e.0 }
