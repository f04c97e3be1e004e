-- Step by step from bytes to the answer.
use mathlib.Core.Path.{refl}
use Rattle.exports.specs.Limits.{limits_in}
use Rattle.exports.proofs.limiting.limits_in.Goals as goal

pub returns : goal.returns
unfolding limits_in
returns c =
    rw (
      c.with_list-answer.ensures,
      c.are_decisions.ensures,
      c.is_recorded.ensures,
      c.limits-limited.ensures,
      c.decisions_of.ensures,
      c.record_in-sheet.ensures,
    ) refl
