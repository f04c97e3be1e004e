-- The test of all entries is the definition's, which goes entry by entry.
use Rattle.std.proofs.Common.{rules, tests, refl, arith, ◌∙◌, take}
use Rattle.std.proofs.lemmas.Iterator.{YieldsList-from_range}
use Rattle.std.proofs.lemmas.Iterator.Search.{all_from_yields_List}
use Rattle.record.proofs.EntryLaws.{fine_ordering, all_orderings}
use Rattle.record.proofs.record.orderings_fine.Goals as goal

pub returns : goal.returns
returns c =
    let s = c.args.s.now in
    all_from_yields_List (fine_ordering (take s.option_count s.numbers) s.firsts s.seconds s.ordering_weights) c.all.new.self _ _ c.all.ensures.ran (YieldsList-from_range 0 s.ordering_count s.ordering_count refl (omega arith)) (λ x b q k. search (rules, tests))
    ∙ all_orderings s.ordering_count 0 (take s.option_count s.numbers) s.firsts s.seconds s.ordering_weights
