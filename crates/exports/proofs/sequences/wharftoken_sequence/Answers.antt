-- A refusal changes nothing; a success writes the places.
use native.Mathlib.Omega.{arith}
use Rattle.wire.specs.laws.Lent.{out_packs}
use Rattle.exports.specs.laws.Sequence.{sequence_placed, sequence_untouched, sequence_accepted}
use Rattle.std.proofs.Common.{ap}
use Rattle.std.specs.Prelude.{not}
use Rattle.exports.proofs.sequences.wharftoken_sequence.Goals as goal

pub pack_answer-requires : goal.pack_answer-requires
pack_answer-requires c =
    out_packs _ _
    c.lent-answer.ensures.0
    c.is_accepted.ensures
    (sequence_placed _ _ c.sequence_in-sequenced.ensures)
    _ (omega arith)

pub returns-then-not-is_accepted : goal.returns-then-not-is_accepted
returns-then-not-is_accepted c =
    sequence_untouched _ _ _
    c.sequence_in-sequenced.ensures
    c.lent-answer.ensures
    c.is_accepted.ensures
    (ap not c.if-not-is_accepted.true)
    c.pack_answer.ensures

pub returns : goal.returns
returns c =
    sequence_accepted _ _ _
    c.sequence_in-sequenced.ensures
    c.lent-answer.ensures
    c.is_accepted.ensures
    (ap not c.if-not-is_accepted.false)
    c.put_places.ensures
    c.places_in_use.ensures.0
    c.pack_answer-2.ensures
