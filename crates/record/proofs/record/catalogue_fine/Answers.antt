-- The test of all entries is the definition's, which goes entry by entry.
use Rattle.std.proofs.Common.{rules, tests, refl, arith, ◌∙◌}
use Rattle.std.proofs.lemmas.Iterator.{YieldsList-from_range}
use Rattle.std.proofs.lemmas.Iterator.Search.{all_from_yields_List}
use Rattle.record.proofs.EntryLaws.{fine_catalogue_entry, all_catalogue}
use Rattle.record.proofs.record.catalogue_fine.Goals as goal

pub returns : goal.returns
returns c =
    let s = c.args.s.now in
    all_from_yields_List (fine_catalogue_entry s.letters s.befores s.afters) c.all.new.self _ _ c.all.ensures.ran (YieldsList-from_range 0 s.catalogue_lines s.catalogue_lines refl (omega arith)) (λ x b q k. search (rules, tests))
    ∙ all_catalogue s.catalogue_lines 0 s.letters s.befores s.afters
