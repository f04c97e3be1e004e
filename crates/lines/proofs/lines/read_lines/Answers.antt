-- The answer for all lines is the answer for the lines that are left, from the record so far.
use Rattle.std.proofs.Common.{◌-◌, sym, ◌∙◌, arith}
use Rattle.lines.proofs.LineLaws.{broken, fine, lines_end}
use Rattle.lines.proofs.lines.read_lines.Goals as goal

pub returns-in-Broken : goal.returns-in-Broken
returns-in-Broken c = let g = c.args in
    let a = c.loop-number in
    broken g.f g.u g.a g.stop a.number a.rest.now a.sheet c.loop-number-test.true c.numbers_of-h.ensures c.section_of.ensures c.judged.ensures a.invariant c.in-Broken.is c.refused_at.ensures

pub loop-number-preserved : goal.loop-number-preserved
loop-number-preserved c = let g = c.args in
    let a = c.loop-number in
    fine g.f g.u g.a g.stop a.number a.rest.now a.sheet c.loop-number-test.true c.numbers_of-h.ensures c.section_of.ensures c.judged.ensures a.invariant c.in-Fine.is c.byte_at.ensures c.put.ensures c.line_length.ensures.0

pub returns : goal.returns
returns c = let g = c.args in
    let a = c.loop-number in
    c.answered.ensures ∙ sym (a.invariant ∙ lines_end g.f g.u g.a (g.stop - a.number) a.number a.rest.now a.sheet (omega (arith, c.loop-number-test.false)))
