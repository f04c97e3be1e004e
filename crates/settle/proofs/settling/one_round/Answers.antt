-- Each way out of a round is a law of forcing, or what comes after forcing.
use Rattle.settle.specs.laws.Forcing.{contradiction_settles, limit_settles, forced_are_left}
use Rattle.chart.specs.Chart.{known_of}
use Rattle.settle.proofs.settling.one_round.Goals as goal

pub returns-then-f : goal.returns-then-f
returns-then-f c = contradiction_settles _ _ _ c.requires _ c.force-f.ensures c.if-f.true

pub returns-then-h-want : goal.returns-then-h-want
returns-then-h-want c = limit_settles _ _ _ c.requires _ c.force-f.ensures _ c.half_decided-h.ensures c.if-f.false c.if-h-want.true

pub returns-then-is_decided : goal.returns-then-is_decided
returns-then-is_decided c = forced_are_left _ _ _ c.requires _ c.force-f.ensures _ c.half_decided-h.ensures c.if-f.false c.args.chart.now.of_a_sheet _ c.sets_of.ensures _ c.left_with.ensures

pub returns : goal.returns
returns c = c.after_forcing.ensures.step _ (known_of c.args.chart.now) _ c.requires c.force-f.ensures c.half_decided-h.ensures c.if-f.false
