-- The whole sheet, then options, then orderings.
use Rattle.figures.specs.laws.Limits.{limits_put}
use Rattle.figures.proofs.limits_out.put_limits.Goals as goal

pub returns : goal.returns
returns c =
    limits_put
    c.args.limited.now
    c.args.out.now
    c.put_fours.ensures
    c.put_fours-2.ensures
