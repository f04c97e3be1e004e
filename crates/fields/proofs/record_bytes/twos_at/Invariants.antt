-- Each turn takes one number of two bytes.
use Prim.Native.Nat.{◌+◌, ◌*◌}
use Rattle.entries.specs.laws.Taken.{Taken}
use Rattle.fields.specs.Record.{two_at}
use Rattle.fields.proofs.record_bytes.twos_at.Given as goal

abbrev pub invariant-loop-i : goal.invariant-loop-i
invariant-loop-i g l = Taken g.row.N (λ j. two_at l.bytes (l.at + 2 * j)) 0 l.i l.numbers
