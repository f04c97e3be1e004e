-- What was written so far is what the output gained.
use Rattle.std.proofs.Common.{◌≤◌, length, take}
use Rattle.std.specs.Io.KnownBytes.{Appends}
use Rattle.output.proofs.putting.put_all.Given as goal

abbrev pub invariant-loop : goal.invariant-loop
invariant-loop g l = record {
  within : l.written ≤ length l.initial.text;
  gained : Appends (g.W.Write.contents l.initial.output) (g.W.Write.contents l.output) (take l.written l.initial.text);
}
