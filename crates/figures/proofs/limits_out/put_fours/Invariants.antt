-- Each turn writes the four limits of one item.
use Rattle.figures.specs.Limits.{four_at}
use Rattle.entries.specs.laws.Put.{Spread}
use Rattle.figures.proofs.limits_out.put_fours.Given as goal

abbrev pub invariant-loop-i : goal.invariant-loop-i
invariant-loop-i g l = Spread l.at (four_at l.limits) l.i l.initial.out l.out
