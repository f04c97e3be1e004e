-- A refusal changes nothing; a success writes both outputs.
use native.Mathlib.Omega.{arith}
use Rattle.wire.specs.laws.Lent.{out_packs}
use Rattle.exports.specs.laws.Search.{search_placed, search_untouched, search_shown}
use Rattle.std.proofs.Common.{ap}
use Rattle.std.specs.Prelude.{not}
use Rattle.exports.proofs.searches.wharftoken_search.Goals as goal

pub pack_answer-requires : goal.pack_answer-requires
pack_answer-requires c =
    out_packs _ _
    c.lent_both-answer.ensures.0
    c.is_accepted.ensures
    (search_placed _ _ c.search-found.ensures)
    _ (omega arith)

pub returns-then-not-is_accepted : goal.returns-then-not-is_accepted
returns-then-not-is_accepted c =
    search_untouched _ _ _ _
    c.record_in.ensures
    c.search-found.ensures
    c.lent_both-answer.ensures
    c.is_accepted.ensures
    (ap not c.if-not-is_accepted.true)
    c.pack_answer.ensures

pub returns : goal.returns
returns c =
    search_shown _ _ _ _
    c.record_in.ensures
    c.search-found.ensures
    c.lent_both-answer.ensures
    c.is_accepted.ensures
    (ap not c.if-not-is_accepted.false)
    c.put_decisions.ensures
    c.put_totals.ensures
    c.pack_answer-2.ensures
