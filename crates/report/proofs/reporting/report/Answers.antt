-- The report is printed on a page that is long enough for any, and copied if the buffer is long enough too.
use Rattle.std.proofs.Common.{◌++◌, drop, ap}
use Rattle.report.specs.laws.Answer.{out_too_short, out_long_enough}
use Rattle.report.specs.laws.Short.{report_short}
use Rattle.report.proofs.reporting.report.Goals as goal

pub put_report-size-requires : goal.put_report-size-requires
put_report-size-requires c = report_short c.args.text.now

pub returns-then-out-size : goal.returns-then-out-size
returns-then-out-size c = out_too_short _ c.put_report-size.ensures _ c.if-out-size.true c.too_short.ensures

pub returns : goal.returns
returns c =
    let copied = ap (λ z. z ++ drop c.put_report-size.result c.args.out.now) c.copy_from_slice.ensures.after in
    out_long_enough _ c.put_report-size.ensures _ c.if-out-size.false copied
