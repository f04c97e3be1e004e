-- The answer on the whole text is the answer on the bytes that are left, from the lines met so far.
use Rattle.std.proofs.Common.{◌≡◌, ◌≤◌, drop}
use Rattle.shape.specs.Trailer.{last_line, last_line_from}
use Rattle.pieces.proofs.trailer.last_line.Given as goal

abbrev pub invariant-loop-i : goal.invariant-loop-i
invariant-loop-i l = (l.next ≤ l.i) × (l.start ≤ l.next) × (l.lines ≤ l.i) × (last_line l.s ≡ last_line_from (drop l.i l.s) l.i l.next l.start l.lines)
