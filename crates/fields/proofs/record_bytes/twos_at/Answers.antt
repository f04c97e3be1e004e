-- Each turn takes one number of two bytes.
use Rattle.entries.specs.laws.Taken.{taken_all}
use Rattle.fields.proofs.record_bytes.twos_at.Goals as goal

pub returns : goal.returns
returns g c = taken_all _ _ _ c.loop-i.invariant c.loop-i-test.false
