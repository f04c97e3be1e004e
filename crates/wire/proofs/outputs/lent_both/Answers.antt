-- Both lengths decide.
use mathlib.Core.Path.{refl, ◌∙◌, ◌≡◌}
use Rattle.std.proofs.Common.{◌&&◌, leb, le-leb}
use Rattle.std.proofs.lemmas.Bool.{lt-leb}
use Rattle.wire.specs.laws.Lent.{lent_both_done}
use Rattle.wire.proofs.outputs.lent_both.Goals as goal
use Rattle.wire.proofs.outputs.lent_both.Goals.{then-entries-length, else-entries-length}

pub returns : goal.returns
returns c =
    let both : c.if-entries-length.if_it_fits ≡ (leb c.args.entries c.args.length && leb c.args.others c.args.other_length) = elim c.if-entries-length.branch [
      | then-entries-length w ↦ rw (le-leb c.args.entries c.args.length w.if-entries-length.true) w.if_it_fits-is
      | else-entries-length w ↦ rw (lt-leb c.args.entries c.args.length w.if-entries-length.false) (w.if_it_fits-is ∙ lt-leb c.args.entries c.args.length w.if-entries-length.false)
    ] in
    lent_both_done _ _ _ c.if_it_fits.ensures _ _ both refl refl
