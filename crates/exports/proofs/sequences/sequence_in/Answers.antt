-- Step by step from bytes to the answer.
use mathlib.Core.Path.{refl}
use Rattle.exports.specs.Sequence.{sequence_in}
use Rattle.exports.proofs.sequences.sequence_in.Goals as goal

pub returns : goal.returns
unfolding sequence_in
returns c =
    rw (
      c.with_list-answer.ensures,
      c.are_decisions.ensures,
      c.is_recorded.ensures,
      c.sequence-sequenced.ensures,
      c.decisions_of.ensures,
      c.record_in-sheet.ensures,
    ) refl
