-- The test is that of the definition, pair by pair.
use Rattle.std.proofs.Common.{rules, tests, ◌∙◌, ◌&&◌, eqb}
use Rattle.std.proofs.lemmas.Iterator.{YieldsList-from_slice, YieldsList-from_zip}
use Rattle.std.proofs.lemmas.Iterator.Search.{any_from_yields_List}
use Rattle.judge.proofs.SomeLaws.{some_is_pair}
use Rattle.judge.proofs.judge.is_pair.Goals as goal

pub returns : goal.returns
returns c =
    any_from_yields_List (λ p. eqb p.0 c.args.x && eqb p.1 c.args.y) c.any.new.self _ _ c.any.ensures.ran (YieldsList-from_zip (YieldsList-from_slice c.args.firsts.now cc) (YieldsList-from_slice c.args.seconds.now cc)) (λ x b q k. search (rules, tests))
    ∙ some_is_pair c.args.x c.args.y c.args.firsts.now c.args.seconds.now
