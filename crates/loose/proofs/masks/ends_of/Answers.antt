-- Each turn puts in the end of one ordering, if it is of the set.
use Rattle.std.proofs.Common.{rules, ap, ◌∙◌}
use Rattle.std.proofs.lemmas.List.{get_or-take}
use Rattle.rows.specs.Bits.{with_if}
use Rattle.loose.specs.laws.Masks.{ends_none, ends_step}
use Rattle.loose.proofs.masks.ends_of.Goals as goal

pub loop-u-init : goal.loop-u-init
loop-u-init c = ends_none _ _

pub loop-u-preserved : goal.loop-u-preserved
loop-u-preserved c =
    let end = c.from.ensures ∙ get_or-take c.args.ordering_count c.args.ends.now c.loop-u.u 0 (search rules) in
    ends_step _ _ c.loop-u.invariant c.get.ensures (c.put_if-options.ensures ∙ ap (λ z. with_if c.loop-u.options z c.get.result) end)
