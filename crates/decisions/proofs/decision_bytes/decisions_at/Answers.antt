-- Each turn takes one decision.
use Rattle.entries.specs.laws.Taken.{taken_all}
use Rattle.decisions.proofs.decision_bytes.decisions_at.Goals as goal

pub returns : goal.returns
returns g c = taken_all _ _ _ c.loop-i.invariant c.loop-i-test.false
