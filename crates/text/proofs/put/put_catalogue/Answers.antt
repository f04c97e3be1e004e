-- The lines from i on remain to be printed.
use Rattle.text.proofs.SectionLaws.{catalogue_first, catalogue_none}
use Rattle.print.proofs.PageLaws.{less_remains, none_remains, room_first, room_same, room_remains}
use Rattle.text.proofs.put.put_catalogue.Goals as goal

pub put_line-requires : goal.put_line-requires
put_line-requires c = let s = c.args.s.now in
    let first = catalogue_first s.catalogue_lines c.loop-i.i s.letters s.befores s.afters c.loop-i-test.true in
    rw (c.from-before.ensures, c.from-after.ensures) (room_first _ _ (room_same first (room_remains c.requires.room c.loop-i.invariant)))

pub loop-i-preserved : goal.loop-i-preserved
loop-i-preserved c = let s = c.args.s.now in
    let first = catalogue_first s.catalogue_lines c.loop-i.i s.letters s.befores s.afters c.loop-i-test.true in
    less_remains first c.loop-i.invariant (rw (c.from-before.ensures, c.from-after.ensures) at c.put_line.ensures)

pub returns : goal.returns
returns c = let s = c.args.s.now in
    none_remains (catalogue_none s.catalogue_lines c.loop-i.i s.letters s.befores s.afters c.loop-i-test.false) c.loop-i.invariant
