-- The row and the open items have nothing in common, and nothing sets out from where an ordering ends.
use Rattle.std.proofs.Common.{refl, ap, ◌∙◌}
use Rattle.rows.specs.Bits.{has, met, joined}
use Rattle.loose.specs.laws.Sides.{free_option, free_ordering}
use Rattle.loose.proofs.sides.is_free.Goals as goal

pub returns-then-x-lt32 : goal.returns-then-x-lt32
unfolding met joined
returns-then-x-lt32 c = record { told = λ _. (free_option c.args.row c.args.opens c.args.ends _ _ refl refl c.if-row-opens-eq0.true _ _ c.if-x-lt32.true).told refl }

pub returns-else-x-lt32 : goal.returns-else-x-lt32
unfolding met joined
returns-else-x-lt32 c = free_ordering c.args.row c.args.opens c.args.ends _ _ refl refl c.if-row-opens-eq0.true _ _ _ (c.get.ensures ∙ ap (has c.args.ends) c.from.ensures)
