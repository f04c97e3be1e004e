-- The size so far and the length of the lines from i on add up to the length of all.
use Rattle.std.proofs.Common.{ap, arith, length, ℕ}
use Rattle.shape.specs.LineText.{decimal}
use Rattle.text.proofs.SectionLaws.{orderings_length, orderings_none}
use Rattle.text.proofs.size.orderings_size.Goals as goal

pub loop-i-preserved : goal.loop-i-preserved
loop-i-preserved c = let s = c.args.s.now in
    let longer = orderings_length s.ordering_count c.loop-i.i s.firsts s.seconds s.ordering_weights c.loop-i-test.true in
    let width = λ (x : ℕ). length (decimal x) in
    (omega (arith, c.loop-i.invariant, c.decimal_width-first.ensures, c.decimal_width-second.ensures, c.decimal_width-weight.ensures), omega (arith, longer, c.loop-i.invariant, c.decimal_width-first.ensures, c.decimal_width-second.ensures, c.decimal_width-weight.ensures, ap width c.from.ensures, ap width c.from-in-loop-i.ensures, ap width c.from-in-loop-i-2.ensures))

pub returns : goal.returns
returns c = let s = c.args.s.now in
    let none = ap length (orderings_none s.ordering_count c.loop-i.i s.firsts s.seconds s.ordering_weights c.loop-i-test.false) in
    (omega (arith, none, c.loop-i.invariant), omega (arith, c.loop-i.invariant))
