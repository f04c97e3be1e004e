-- Each turn writes one number of two bytes.
use lib.ListN.{get_or}
use Rattle.fields.specs.Record.{two_bytes}
use Rattle.entries.specs.laws.Put.{Spread}
use Rattle.fields_out.proofs.record_out.put_twos.Given as goal

abbrev pub invariant-loop-i : goal.invariant-loop-i
invariant-loop-i g l = Spread l.at (λ j. two_bytes (get_or l.from j 0)) l.i l.initial.out l.out
