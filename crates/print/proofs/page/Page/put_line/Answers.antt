-- The letter, a space and a number for each of the numbers, and the line end are printed one after the other.
use Rattle.std.proofs.Common.{[], ◌∷◌, refl}
use Rattle.shape.specs.LineText.{decimal, fields_text}
use Rattle.print.proofs.PageLaws.{printed_both, less_remains, none_remains, room_first, room_second, room_same, room_remains, fields_first, fields_none}
use Rattle.print.proofs.page.Page.put_line.Goals as goal

pub put-requires-in-loop-n : goal.put-requires-in-loop-n
put-requires-in-loop-n c =
    let room = room_second (c.args.letter ∷ []) (fields_text c.args.numbers.now) c.requires c.put.ensures in
    room_first (32 ∷ []) _ (room_same (fields_first _ _ c.loop-n-test.true) (room_remains room c.loop-n.invariant))

pub put_number-requires : goal.put_number-requires
put_number-requires c =
    let room = room_second (c.args.letter ∷ []) (fields_text c.args.numbers.now) c.requires c.put.ensures in
    room_first (decimal _) _ (room_second (32 ∷ []) _ (room_same (fields_first _ _ c.loop-n-test.true) (room_remains room c.loop-n.invariant)) c.put-in-loop-n.ensures)

pub loop-n-preserved : goal.loop-n-preserved
loop-n-preserved c = less_remains refl (less_remains (fields_first _ _ c.loop-n-test.true) c.loop-n.invariant c.put-in-loop-n.ensures) c.put_number.ensures

pub put-requires-2 : goal.put-requires-2
put-requires-2 c =
    let room = room_second (c.args.letter ∷ []) (fields_text c.args.numbers.now) c.requires c.put.ensures in
    room_same (fields_none _ _ c.loop-n-test.false) (room_remains room c.loop-n.invariant)

pub returns : goal.returns
returns c = printed_both c.put.ensures (none_remains refl (less_remains (fields_none _ _ c.loop-n-test.false) c.loop-n.invariant c.put-2.ensures))
