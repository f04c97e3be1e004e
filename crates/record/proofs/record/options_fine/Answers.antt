-- The test of all entries is the definition's, which goes entry by entry.
use Rattle.std.proofs.Common.{rules, tests, refl, arith, ◌∙◌}
use Rattle.std.proofs.lemmas.Iterator.{YieldsList-from_range}
use Rattle.std.proofs.lemmas.Iterator.Search.{all_from_yields_List}
use Rattle.record.proofs.EntryLaws.{fine_option, all_options}
use Rattle.record.proofs.record.options_fine.Goals as goal

pub returns : goal.returns
returns c =
    let s = c.args.s.now in
    all_from_yields_List (fine_option s.numbers s.weights) c.all.new.self _ _ c.all.ensures.ran (YieldsList-from_range 0 s.option_count s.option_count refl (omega arith)) (λ x b q k. search (rules, tests))
    ∙ all_options s.option_count 0 s.numbers s.weights
