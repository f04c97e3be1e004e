-- What the report answers, packed.
use native.Mathlib.Omega.{arith}
use Rattle.exports.specs.laws.Reported.{report_packs}
use Rattle.exports.proofs.texts.wharftoken_report.Goals as goal

pub pack_answer-requires : goal.pack_answer-requires
pack_answer-requires c =
    let h = report_packs _ _ c.report-reported.ensures.0 in
    let small = h.small_count in
    record { placed = h.placed; small_count = omega arith }
