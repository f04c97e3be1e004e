-- Each turn has one member more give what is still wanted of it.
use Rattle.residual.specs.TakenAll.{Gave}
use Rattle.residual.proofs.taking_all.take_all.Given as goal

abbrev pub invariant-loop-q : goal.invariant-loop-q
invariant-loop-q l = Gave l.first l.second l.n l.m l.chain l.e l.q l.initial.options l.initial.orderings l.options l.orderings
