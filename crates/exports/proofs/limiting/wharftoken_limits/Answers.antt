-- A refusal changes nothing; a success writes both outputs.
use native.Mathlib.Omega.{arith}
use Rattle.wire.specs.laws.Lent.{out_packs}
use Rattle.exports.specs.laws.Limits.{limits_placed, limits_untouched, limits_shown}
use Rattle.std.proofs.Common.{ap}
use Rattle.std.specs.Prelude.{not}
use Rattle.exports.proofs.limiting.wharftoken_limits.Goals as goal

pub pack_answer-requires : goal.pack_answer-requires
pack_answer-requires c =
    out_packs _ _
    c.lent_both-answer.ensures.0
    c.is_accepted.ensures
    (limits_placed _ _ c.limits_in-limited.ensures)
    _ (omega arith)

pub returns-then-not-is_accepted : goal.returns-then-not-is_accepted
returns-then-not-is_accepted c =
    limits_untouched _ _ _ _
    c.limits_in-limited.ensures
    c.lent_both-answer.ensures
    c.is_accepted.ensures
    (ap not c.if-not-is_accepted.true)
    c.pack_answer.ensures

pub returns : goal.returns
returns c =
    limits_shown _ _ _ _
    c.limits_in-limited.ensures
    c.lent_both-answer.ensures
    c.is_accepted.ensures
    (ap not c.if-not-is_accepted.false)
    c.put_decisions.ensures
    c.put_limits.ensures
    c.contradictions.ensures.0
    c.pack_answer-2.ensures
