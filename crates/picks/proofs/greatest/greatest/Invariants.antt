-- The first member is always taken, later ones only in its place; so nothing found means nothing there.
use Rattle.picks.specs.Picked.{OneOf}
use Rattle.picks.proofs.greatest.greatest.Given as goal

abbrev pub invariant-loop-i : goal.invariant-loop-i
invariant-loop-i g l = OneOf l.set l.n l.i l.best
