-- Each turn puts one slot at its number.
use mathlib.Core.Path.{◌≡◌, ◌∙◌}
use lib.ListN.{get_or}
use Prim.Native.Nat.{◌<◌}
use native.Mathlib.Omega.{arith}
use Rattle.std.proofs.lemmas.List.{length-take, get_or-take}
use Rattle.slots.specs.laws.Table.{table_none, table_step, table_end}
use Rattle.slots.proofs.slot_table.Goals as goal

pub loop-i-init : goal.loop-i-init
loop-i-init c = table_none _ _

pub loop-i-preserved : goal.loop-i-preserved
loop-i-preserved c =
    let size = c.requires.0.size in
    let below : c.loop-i.i < c.args.n = omega (arith, length-take c.args.n c.args.numbers.now) in
    let number : c.from.result ≡ get_or c.args.numbers.now c.loop-i.i 0 = c.from.ensures ∙ get_or-take c.args.n c.args.numbers.now c.loop-i.i 0 below in
    rw number (table_step c.requires.0 below c.loop-i.invariant (omega (arith, c.type_inv.numbers c.loop-i.i)))

pub returns : goal.returns
returns c = let size = c.requires.0.size in table_end c.loop-i.invariant (omega (arith, length-take c.args.n c.args.numbers.now))
