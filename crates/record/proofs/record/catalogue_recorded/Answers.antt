-- The tests are those of the definition, in its order.
use Rattle.std.proofs.Common.{arith, drop}
use Rattle.std.proofs.lemmas.Grind.{common_steps}
use Rattle.record.proofs.EntryLaws.{rest_zero}
use Rattle.sheet.specs.IsRecorded.{catalogue_recorded}
use Rattle.record.proofs.record.catalogue_recorded.Goals as goal

pub returns-then-rest_is-2 : goal.returns-then-rest_is-2
unfolding catalogue_recorded
returns-then-rest_is-2 c =
    let s = c.args.s.now in
    let p = rest_zero (drop s.catalogue_lines s.letters) in
    let q = rest_zero (drop s.catalogue_lines s.befores) in
    let r = rest_zero (drop s.catalogue_lines s.afters) in
    grind (arith, common_steps, p, q, r)

pub returns-else-rest_is-2 : goal.returns-else-rest_is-2
unfolding catalogue_recorded
returns-else-rest_is-2 c =
    let s = c.args.s.now in
    let p = rest_zero (drop s.catalogue_lines s.letters) in
    let q = rest_zero (drop s.catalogue_lines s.befores) in
    let r = rest_zero (drop s.catalogue_lines s.afters) in
    grind (arith, common_steps, p, q, r)
