-- The tests are those of the definition, in its order.
use Rattle.std.proofs.Common.{arith, drop}
use Rattle.std.proofs.lemmas.Grind.{common_steps}
use Rattle.record.proofs.EntryLaws.{rest_zero}
use Rattle.sheet.specs.IsRecorded.{options_recorded}
use Rattle.record.proofs.record.options_recorded.Goals as goal

pub returns-then-rest_is : goal.returns-then-rest_is
unfolding options_recorded
returns-then-rest_is c =
    let s = c.args.s.now in
    let p = rest_zero (drop s.option_count s.numbers) in
    let q = rest_zero (drop s.option_count s.weights) in
    grind (arith, common_steps, p, q)

pub returns-else-rest_is : goal.returns-else-rest_is
unfolding options_recorded
returns-else-rest_is c =
    let s = c.args.s.now in
    let p = rest_zero (drop s.option_count s.numbers) in
    let q = rest_zero (drop s.option_count s.weights) in
    grind (arith, common_steps, p, q)
