-- An option gives its own weight first, then its orderings; an ordering gives itself.
use native.Mathlib.Omega.{arith}
use Rattle.residual.specs.laws.Taken.{took_option, took_ordering}
use Rattle.residual.proofs.taking.Ends.take.Goals as goal

pub returns-then-x-lt32 : goal.returns-then-x-lt32
returns-then-x-lt32 c = let asked = c.requires in
    let yes = c.if-x-lt32.true in
    took_option _ _ _ _ _ _ _ _ asked.0 asked.2 _ _ _ _ yes (omega (arith, asked.0.option yes))
    c.take_at-rest.ensures c.take_orderings.ensures

pub returns-else-x-lt32 : goal.returns-else-x-lt32
returns-else-x-lt32 c = let asked = c.requires in
    let no = c.if-x-lt32.false in
    took_ordering _ _ _ _ _ _ _ _ asked.0 asked.2 _ _ no (omega (arith, asked.0.ordering no)) c.take_at.ensures
