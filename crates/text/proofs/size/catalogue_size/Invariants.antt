-- The size so far and the length of the lines from i on add up to the length of all.
use Rattle.std.proofs.Common.{[], ◌≡◌, ◌≤◌, ◌+◌, ◌-◌, ◌*◌, length}
use Rattle.sheet.specs.Text.{catalogue_text}
use Rattle.text.proofs.size.catalogue_size.Given as goal

abbrev pub invariant-loop-i : goal.invariant-loop-i
invariant-loop-i l = (l.size ≤ 65 * l.i) × (length (catalogue_text l.s.catalogue_lines 0 [] l.s.befores l.s.afters) ≡ l.size + length (catalogue_text (l.s.catalogue_lines - l.i) l.i [] l.s.befores l.s.afters))
