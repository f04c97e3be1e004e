-- The answer on the whole line is the answer on the bytes that are left, from the state reached.
use Rattle.std.proofs.Common.{◌≡◌, drop}
use Rattle.shape.specs.Trailer.{is_trailer, is_done}
use Rattle.shape.specs.Grammar.{run}
use Rattle.shape.specs.declared.shape.Section.TheVariants.{Trailer}
use Rattle.pieces.proofs.trailer.is_trailer.Given as goal

abbrev pub invariant-loop-b : goal.invariant-loop-b
invariant-loop-b l = is_trailer l.line ≡ is_done (run Trailer l.state (drop l.b-index l.line))
