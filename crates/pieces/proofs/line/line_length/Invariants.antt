-- The line is as long as the bytes passed and what is left of it.
use Rattle.std.proofs.Common.{◌≡◌, ◌+◌, drop}
use Rattle.shape.specs.Line.{line_length}
use Rattle.pieces.proofs.line.line_length.Given as goal

abbrev pub invariant-loop-i : goal.invariant-loop-i
invariant-loop-i l = line_length l.text ≡ l.i + line_length (drop l.i l.text)
