-- A refusal changes nothing; a success writes the record.
use native.Mathlib.Omega.{arith}
use Rattle.wire.specs.laws.Lent.{passed, out_packs, out_before}
use Rattle.exports.specs.laws.Read.{read_placed, counts_small, read_untouched, read_accepted}
use Rattle.std.proofs.Common.{ap}
use Rattle.std.specs.Prelude.{not}
use Rattle.exports.proofs.reading.wharftoken_read.Goals as goal

pub pack_answer-requires : goal.pack_answer-requires
pack_answer-requires c =
    out_packs _ _
    c.lent-answer.ensures.0
    c.is_accepted.ensures
    (read_placed _ c.read-reading.ensures)
    _ (omega arith)

pub returns-then-not-is_accepted : goal.returns-then-not-is_accepted
returns-then-not-is_accepted c =
    read_untouched _ _
    c.read-reading.ensures
    c.lent-answer.ensures
    c.is_accepted.ensures
    (ap not c.if-not-is_accepted.true)
    c.pack_answer.ensures

pub put_record-requires : goal.put_record-requires
put_record-requires c = record {
  counts_bound = counts_small _
      c.read-reading.ensures
      (out_before _ _ c.lent-answer.ensures.0 c.is_accepted.ensures (ap not c.if-not-is_accepted.false));
  in_bounds = c.lent-answer.ensures.1 (passed c.is_accepted.ensures (ap not c.if-not-is_accepted.false));
}

pub returns : goal.returns
returns c =
    read_accepted _ _
    c.read-reading.ensures
    c.lent-answer.ensures
    c.is_accepted.ensures
    (ap not c.if-not-is_accepted.false)
    c.put_record.ensures
    c.pack_answer-2.ensures
