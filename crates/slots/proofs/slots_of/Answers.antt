-- Each turn reads one slot off the table.
use mathlib.Core.Path.{◌≡◌, ◌∙◌}
use lib.ListN.{get_or}
use Prim.Native.Nat.{◌<◌}
use native.Mathlib.Omega.{arith}
use Rattle.std.proofs.lemmas.List.{length-take, get_or-take}
use Rattle.slots.specs.laws.Slots.{slots_step, slots_end}
use Rattle.slots.proofs.slots_of.Goals as goal

pub loop-u-preserved : goal.loop-u-preserved
loop-u-preserved c =
    let below : c.loop-u.u < c.args.m = omega (arith, length-take c.args.m c.args.ends.now) in
    let end : c.from.result ≡ get_or c.args.ends.now c.loop-u.u 0 = c.from.ensures ∙ get_or-take c.args.m c.args.ends.now c.loop-u.u 0 below in
    rw end (slots_step _ _ c.loop-u.invariant (omega arith) (omega (arith, c.type_inv.ends c.loop-u.u)))

pub returns : goal.returns
returns c = slots_end c.loop-u.invariant (omega (arith, length-take c.args.m c.args.ends.now))
