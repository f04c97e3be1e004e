-- The test is that of the definition, element by element.
use Rattle.std.proofs.Common.{rules, tests, ◌∙◌, eqb}
use Rattle.std.proofs.lemmas.Iterator.{YieldsList-from_slice}
use Rattle.std.proofs.lemmas.Iterator.Search.{any_from_yields_List}
use Rattle.judge.proofs.SomeLaws.{some_is_in}
use Rattle.judge.proofs.judge.is_in.Goals as goal

pub returns : goal.returns
returns c =
    any_from_yields_List (λ y. eqb y c.args.x) c.any.new.self _ _ c.any.ensures.ran (YieldsList-from_slice c.args.entries.now cc) (λ x b q k. search (rules, tests))
    ∙ some_is_in c.args.x c.args.entries.now
