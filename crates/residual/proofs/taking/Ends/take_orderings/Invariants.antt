-- Each turn takes from one ordering more, if it touches the option.
use Rattle.residual.specs.Taken.{TookTo}
use Rattle.residual.proofs.taking.Ends.take_orderings.Given as goal

abbrev pub invariant-loop-u : goal.invariant-loop-u
invariant-loop-u l = TookTo l.initial.orderings l.self.first.now l.self.second.now l.x l.need l.u l.orderings l.rest
