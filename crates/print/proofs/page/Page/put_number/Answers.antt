-- Storing the last digit first leaves the digits before it to be stored in front of it.
use Rattle.std.proofs.Common.{ℕ, List, refl, sym, ap, ◌∙◌, arith, length-set}
use Rattle.print.specs.Put.{put}
use Rattle.shape.proofs.DigitLaws.{last_digits, decimal_digits}
use Rattle.print.proofs.PutLaws.{digits_step, digits_done}
use Rattle.print.proofs.page.Page.put_number.Goals as goal

pub loop-i-init : goal.loop-i-init
loop-i-init c = let width = c.decimal_width-width.ensures.0 in
    let n = c.args.n in
    let page = c.args.self.now in
    (width, refl, refl, refl, ap (λ (l : List ℕ). put page.at l page.bytes.now) (decimal_digits n ∙ ap (λ (k : ℕ). last_digits k n) (sym width)))

pub loop-i-preserved : goal.loop-i-preserved
loop-i-preserved c = let l = c.loop-i in
    (l.invariant.0, l.invariant.1, l.invariant.2, simp length-set l.invariant.3, l.invariant.4 ∙ digits_step _ _ _ _ c.loop-i-test.true)

pub returns : goal.returns
returns c = let l = c.loop-i in
    let stored = sym (l.invariant.4 ∙ digits_done _ _ _ _ c.loop-i-test.false) in
    record { same = l.invariant.2; ends = omega (arith, l.invariant); shows = rw (← l.invariant.1) stored }
