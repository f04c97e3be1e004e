-- The lines from i on remain to be printed.
use Rattle.text.proofs.SectionLaws.{options_first, options_none}
use Rattle.print.proofs.PageLaws.{less_remains, none_remains, room_first, room_same, room_remains}
use Rattle.text.proofs.put.put_options.Goals as goal

pub put_line-requires : goal.put_line-requires
put_line-requires c = let s = c.args.s.now in
    let first = options_first s.option_count c.loop-i.i s.numbers s.weights c.loop-i-test.true in
    rw (c.from-number.ensures, c.from-weight.ensures) (room_first _ _ (room_same first (room_remains c.requires.room c.loop-i.invariant)))

pub loop-i-preserved : goal.loop-i-preserved
loop-i-preserved c = let s = c.args.s.now in
    let first = options_first s.option_count c.loop-i.i s.numbers s.weights c.loop-i-test.true in
    less_remains first c.loop-i.invariant (rw (c.from-number.ensures, c.from-weight.ensures) at c.put_line.ensures)

pub returns : goal.returns
returns c = let s = c.args.s.now in
    none_remains (options_none s.option_count c.loop-i.i s.numbers s.weights c.loop-i-test.false) c.loop-i.invariant
