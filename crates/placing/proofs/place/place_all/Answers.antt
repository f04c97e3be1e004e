-- What is written in the end is what the rest writes from here: the next number is written, and its slot is turned out.
use mathlib.Core.Path.{sym, ◌∙◌}
use native.Mathlib.Nat.{le_antisymm}
use Rattle.placing.specs.laws.Placed.{written_end, written_more, written_done}
use Rattle.placing.proofs.place.place_all.Goals as goal

pub returns-in_default : goal.returns-in_default
returns-in_default c = sym (c.loop-at.invariant ∙ written_end c.args.t.now _ _ _ _ c.loop-at.left c.in_default.ensures.found)

pub loop-at-preserved : goal.loop-at-preserved
loop-at-preserved c = c.loop-at.invariant ∙ written_more c.args.t.now _ _ _ _ c.loop-at.left c.loop-at-test.true c.in-Some.ensures.found c.turn-left.ensures

pub returns : goal.returns
returns c = sym (c.loop-at.invariant ∙ written_done c.args.t.now _ _ _ _ c.loop-at.left (le_antisymm c.loop-at.auto.at-end c.loop-at-test.false))
