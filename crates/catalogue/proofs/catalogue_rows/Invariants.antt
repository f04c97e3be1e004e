-- Each turn adds what one line says.
use Rattle.catalogue.specs.Catalogue.{SaysBy}
use Rattle.catalogue.proofs.catalogue_rows.Given as goal

abbrev pub invariant-loop-k : goal.invariant-loop-k
invariant-loop-k l = SaysBy l.n l.table l.letters l.befores l.afters l.k l.rows
