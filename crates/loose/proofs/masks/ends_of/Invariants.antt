-- Each turn puts in the end of one ordering, if it is of the set.
use Rattle.loose.specs.Loose.{EndsOf}
use Rattle.loose.proofs.masks.ends_of.Given as goal

abbrev pub invariant-loop-u : goal.invariant-loop-u
invariant-loop-u l = EndsOf l.orderings l.ends l.u l.options
