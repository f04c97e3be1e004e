-- Each turn takes the last digit away and counts it.
use native.Mathlib.Omega.{arith}
use Rattle.shape.proofs.LengthLaws.{w1, width_more, twenty_digits}
use Rattle.print.proofs.number.decimal_width.Goals as goal

pub loop-rest-preserved : goal.loop-rest-preserved
loop-rest-preserved c =
    let e = width_more c.loop-rest.rest c.loop-rest-test.true in
    (omega (arith, e, c.loop-rest.invariant), omega (arith, c.loop-rest.invariant))

pub returns : goal.returns
returns c =
    let n = c.args.n in
    let e = w1 c.loop-rest.rest c.loop-rest-test.false in
    let t = twenty_digits n (omega arith) in
    (omega (arith, e, c.loop-rest.invariant), omega (arith, e, t, c.loop-rest.invariant))
