-- Round after round, and each leaves fewer items open.
use Rattle.settle.specs.laws.Stepping.{settles_then}
use Rattle.settle.proofs.settling.+settle.Goals as goal

pub returns-in-Again : goal.returns-in-Again
returns-in-Again t c = settles_then c.in-Again.ensures _ c.settle.ensures
