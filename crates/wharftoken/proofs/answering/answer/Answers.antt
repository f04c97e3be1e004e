-- What was written is the report of the first 8,193 bytes, which is the report of all of them.
use Rattle.std.proofs.Common.{refl, sym, arith, length-take-le}
use Rattle.wharftoken.proofs.Whole.{first_bytes_read, page_has_report, size_on_page, writes_part, writes_report}
use Rattle.wharftoken.proofs.answering.answer.Goals as goal

pub slice_bounds-text-end : goal.slice_bounds-text-end
slice_bounds-text-end g c = let h = size_on_page _ _ refl c.report-reported.ensures.0 c.report-reported.ensures.1 in omega arith

pub slice_bounds-put_all-end : goal.slice_bounds-put_all-end
slice_bounds-put_all-end g c =
    let h = size_on_page _ _ refl c.report-reported.ensures.0 c.report-reported.ensures.1 in
    sym (length-take-le _ c.report-reported.new.out (omega arith))

pub returns : goal.returns
returns g c =
    let is_report = first_bytes_read _ _ _ _ c.fill.auto.buf (page_has_report _ _ refl c.report-reported.ensures.0 c.report-reported.ensures.1) c.in_ok-n.ensures.bytes in
    record {
      whole = writes_report _ _ _ _ _ c.put_all.ensures.whole is_report;
      part = writes_part _ _ _ _ _ c.put_all.ensures.part is_report;
    }
