-- The answer for all lines is the answer for the lines that are left, from the record so far.
use Rattle.std.proofs.Common.{◌-◌, ◌≡◌}
use Rattle.lines.specs.Lines.{read_lines}
use Rattle.lines.proofs.lines.read_lines.Given as goal

abbrev pub invariant-loop-number : goal.invariant-loop-number
invariant-loop-number l = read_lines l.f l.u l.a (l.stop - 1) 1 l.initial.rest l.initial.sheet ≡ read_lines l.f l.u l.a (l.stop - l.number) l.number l.rest l.sheet
