-- What is written in the end is what the rest writes from here.
use Rattle.std.proofs.Common.{◌≡◌, ◌-◌, replicate}
use Rattle.placing.specs.Next.{number, numbers_placed, written}
use Rattle.placing.proofs.place.place_all.Given as goal

abbrev pub invariant-loop-at : goal.invariant-loop-at
invariant-loop-at l = written (replicate 32 (number 0)) 0 (numbers_placed l.t l.numbers l.n l.n l.kept) ≡ written l.places l.at (numbers_placed l.t l.numbers l.n (l.n - l.at) l.left)
