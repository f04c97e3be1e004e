-- The answer on the whole text is the answer on the bytes that are left, from the line, column and state reached.
use Rattle.std.proofs.Common.{◌≡◌, ◌+◌, ◌-◌, ◌≤◌, length, drop}
use Rattle.shape.specs.Scan.{section_of, first_misshapen, misshapen_from}
use Rattle.shape.specs.declared.shape.State.TheVariants.{Start}
use Rattle.shape.proofs.scan.first_misshapen.Given as goal

abbrev pub invariant-loop-i : goal.invariant-loop-i
invariant-loop-i l = (l.start ≡ l.initial.start) × (l.line ≡ l.initial.line) × (l.section ≡ section_of l.f l.u l.line) × (first_misshapen l.f l.u l.s ≡ misshapen_from l.f l.u (drop l.i l.b-items) l.line (l.i + 1) l.state)

abbrev pub invariant-lines : goal.invariant-lines
invariant-lines l = (l.start ≤ length l.s) × (l.line ≤ l.start + 1) × (first_misshapen l.f l.u l.s ≡ misshapen_from l.f l.u (drop l.start l.s) l.line 1 Start)

abbrev pub decreases-lines : goal.decreases-lines
decreases-lines l = length l.s - l.start
