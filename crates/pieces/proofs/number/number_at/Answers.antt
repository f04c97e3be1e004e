-- The digits that are left give the same value and width, and five digits never reach 100,000.
use Rattle.std.proofs.Common.{◌-◌, sym, ◌∙◌, arith}
use Rattle.shape.proofs.NumberLaws.{cap_top}
use Rattle.pieces.proofs.DigitTurnLaws.{more, stop_end, stop_other, cap_more}
use Rattle.pieces.proofs.number.number_at.Goals as goal

pub overflow_mul-value : goal.overflow_mul-value
overflow_mul-value c = omega (arith, c.loop.invariant, cap_top c.loop.counter (omega arith))

pub overflow_add-value : goal.overflow_add-value
overflow_add-value c = omega (arith, c.loop.invariant, c.from.ensures, c.if-not-is_ascii_digit.ensures.cases, cap_top c.loop.counter (omega arith))

pub loop-preserved : goal.loop-preserved
loop-preserved c = let digit = c.if-not-is_ascii_digit.ensures.cases in
    let next = c.in-Some.ensures.lookup in
    let e = more c.loop.counter c.loop.value _ _ _ c.loop-test.true next.3.0 (next.4 (omega arith) 0) digit.0 digit.1 in
    rw c.from.ensures (cap_more c.loop.counter c.loop.value _ c.loop.invariant.0 (omega (arith, digit)), c.loop.invariant.1 ∙ e.0, omega (arith, c.loop.invariant.2, e.1))

pub returns-in_default : goal.returns-in_default
returns-in_default c = let e = stop_end (5 - c.loop.counter) c.loop.value c.loop.next _ c.in_default.ensures.lookup.3 in
    (sym (c.loop.invariant.1 ∙ e.0), omega (arith, c.loop.invariant.2, e.1))

pub returns-then-not-is_ascii_digit : goal.returns-then-not-is_ascii_digit
returns-then-not-is_ascii_digit c = let next = c.in-Some.ensures.lookup in
    let e = stop_other (5 - c.loop.counter) c.loop.value _ _ _ next.3.0 (next.4 (omega arith) 0) c.if-not-is_ascii_digit.ensures.cases in
    (sym (c.loop.invariant.1 ∙ e.0), omega (arith, c.loop.invariant.2, e.1))
