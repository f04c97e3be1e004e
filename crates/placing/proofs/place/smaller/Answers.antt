-- The tests of the code are those of the definition, in the same order.
use mathlib.Core.Path.{refl}
use borrow.Author.Tests.{lt-ltb, le-ltb}
use Rattle.placing.specs.Next.{smaller_slot}
use Rattle.placing.proofs.place.smaller.Goals as goal

pub returns-in-Some : goal.returns-in-Some
unfolding smaller_slot
returns-in-Some c = rw (c.in-Some.is, lt-ltb _ _ c.if-numbers-best.true) refl

pub returns-in_default : goal.returns-in_default
unfolding smaller_slot
returns-in_default c = rw (c.in-Some.is, le-ltb _ _ c.if-numbers-best.false) refl

pub returns-in_default-2 : goal.returns-in_default-2
unfolding smaller_slot
returns-in_default-2 c = rw c.in_default.is refl
