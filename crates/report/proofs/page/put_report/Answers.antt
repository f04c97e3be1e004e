-- The sheet's answer decides which of the two texts is printed on a page of the buffer.
use Rattle.std.proofs.Common.{rules, sym, ◌∙◌, arith}
use Rattle.print.proofs.PageLaws.{room_on_new, printed_on_new, printed_same, room_same}
use Rattle.print.specs.Page.{Printed}
use Rattle.listing.specs.laws.Appended.{appended_put}
use Rattle.report.specs.Report.{report_of}
use Rattle.report.specs.laws.Reading.{report_of_accepted, report_of_refused, accepted_is_recorded}
use Rattle.report.proofs.page.put_report.Goals as goal
use Rattle.report.proofs.page.put_report.Goals.{in-Accepted, in-Refused}

pub put_best-requires-clause-recorded : goal.put_best-requires-clause-recorded
put_best-requires-clause-recorded c = accepted_is_recorded _ _ c.read-reading.ensures c.in-Accepted.is

pub put_best-requires-clause-room : goal.put_best-requires-clause-room
put_best-requires-clause-room c =
    room_same (report_of_accepted _ _ c.read-reading.ensures c.in-Accepted.is) (room_on_new c.new-printed.ensures.at c.new-printed.ensures.bytes c.requires)

pub put_refusal-requires : goal.put_refusal-requires
put_refusal-requires c =
    room_same (report_of_refused _ _ c.read-reading.ensures c.in-Refused.is) (room_on_new c.new-printed.ensures.at c.new-printed.ensures.bytes c.requires)

pub returns : goal.returns
returns c =
    let at = c.new-printed.ensures.at in
    let bytes = c.new-printed.ensures.bytes in
    let text : Printed c.new-printed.result c.match-reading.printed (report_of c.args.text.now)
    = elim c.match-reading.branch [
      | in-Accepted w ↦ rw w.printed-is (printed_same (sym (report_of_accepted _ _ c.read-reading.ensures w.in-Accepted.is)) w.put_best.ensures)
      | in-Refused w ↦ rw w.printed-is (printed_same (sym (report_of_refused _ _ c.read-reading.ensures w.in-Refused.is)) w.put_refusal.ensures)
    ] in
    let same = text.same ∙ c.new-printed.ensures.same in
    let done = printed_on_new at bytes text in
    let size = c.len.ensures ∙ done.1 in
    appended_put _ (record { fits = let room = c.requires in omega arith }) (search (rules, same, done), omega (arith, size))
