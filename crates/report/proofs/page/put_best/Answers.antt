-- The parts of the text, one after the other, are what the rules print of the best relaxation.
use native.Mathlib.Omega.{arith}
use Rattle.report.specs.laws.Parts.{value_fits, places_fit, options_fit, orderings_fit, all_printed}
use Rattle.report.proofs.page.put_best.Goals as goal

pub put_line-requires : goal.put_line-requires
put_line-requires c = value_fits _ c.requires.recorded _ _ c.search-found.ensures c.sequence-sequenced.ensures c.requires.room

pub put_places-requires : goal.put_places-requires
put_places-requires c = places_fit _ c.requires.recorded _ _ c.search-found.ensures c.sequence-sequenced.ensures c.requires.room c.put_line.ensures

pub put_options-requires-clause-n_bound : goal.put_options-requires-clause-n_bound
put_options-requires-clause-n_bound c =
    let few = c.requires.recorded.few_options in
    let size = c.requires.recorded.lengths.numbers in
    (few, omega arith)

pub put_options-requires-clause-room : goal.put_options-requires-clause-room
put_options-requires-clause-room c =
    options_fit _ c.requires.recorded _ _ c.search-found.ensures c.sequence-sequenced.ensures c.requires.room c.put_line.ensures c.put_places.ensures

pub put_orderings-requires-clause-m_bound : goal.put_orderings-requires-clause-m_bound
put_orderings-requires-clause-m_bound c =
    let few = c.requires.recorded.few_orderings in
    let firsts = c.requires.recorded.lengths.firsts in
    let seconds = c.requires.recorded.lengths.seconds in
    (few, (omega arith, omega arith))

pub put_orderings-requires-clause-room : goal.put_orderings-requires-clause-room
put_orderings-requires-clause-room c =
    orderings_fit _ c.requires.recorded _ _ c.search-found.ensures c.sequence-sequenced.ensures c.requires.room c.put_line.ensures c.put_places.ensures c.put_options.ensures

pub returns : goal.returns
returns c = all_printed _ c.requires.recorded _ _ c.search-found.ensures c.sequence-sequenced.ensures c.requires.room c.put_line.ensures c.put_places.ensures c.put_options.ensures c.put_orderings.ensures
