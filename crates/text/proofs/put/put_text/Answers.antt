-- The four parts of the text, printed one after the other on a page of the buffer, are the text.
use Rattle.std.proofs.Common.{rules, ◌∙◌}
use Rattle.print.proofs.PageLaws.{room_on_new, printed_on_new}
use Rattle.text.proofs.PrintLaws.{catalogue_fits, options_fit, orderings_fit, trailer_fits, text_printed}
use Rattle.text.proofs.put.put_text.Goals as goal

pub put_catalogue-requires-clause-room : goal.put_catalogue-requires-clause-room
put_catalogue-requires-clause-room c = catalogue_fits c.args.s.now (room_on_new c.new-page.ensures.at c.new-page.ensures.bytes c.requires.room)

pub put_options-requires-clause-room : goal.put_options-requires-clause-room
put_options-requires-clause-room c = options_fit c.args.s.now (room_on_new c.new-page.ensures.at c.new-page.ensures.bytes c.requires.room) c.put_catalogue.ensures

pub put_orderings-requires-clause-room : goal.put_orderings-requires-clause-room
put_orderings-requires-clause-room c =
    orderings_fit c.args.s.now (room_on_new c.new-page.ensures.at c.new-page.ensures.bytes c.requires.room) c.put_catalogue.ensures c.put_options.ensures

pub put_line-requires : goal.put_line-requires
put_line-requires c =
    trailer_fits c.args.s.now (room_on_new c.new-page.ensures.at c.new-page.ensures.bytes c.requires.room) c.put_catalogue.ensures c.put_options.ensures c.put_orderings.ensures

pub returns : goal.returns
returns c =
    let at = c.new-page.ensures.at in
    let bytes = c.new-page.ensures.bytes in
    let printed = text_printed c.args.s.now (room_on_new at bytes c.requires.room) c.put_catalogue.ensures c.put_options.ensures c.put_orderings.ensures c.put_line.ensures in
    let same = printed.same ∙ c.new-page.ensures.same in
    let done = printed_on_new at bytes printed in
    (search (rules, same, done), c.len.ensures ∙ done.1)
