-- Each turn adds one ordering more, if it touches the option.
use mathlib.Core.Path.{ap, sym, ◌∙◌}
use Prim.Native.Nat.{◌-◌, ◌+◌}
use native.Mathlib.Omega.{arith}
use native.Mathlib.Nat.{le_antisymm}
use lib.ListN.{get_or}
use Rattle.rules.specs.Slots.{over, sum}
use Rattle.rules.specs.laws.Sums.{over_yes, over_no}
use Rattle.residual.specs.Taken.{touches_in}
use Rattle.residual.specs.laws.Taken.{held_ordering, held_option}
use Rattle.residual.proofs.taking.Ends.held_by.Goals as goal
use Rattle.residual.proofs.taking.Ends.held_by.Goals.{then-touches, else-touches}

pub returns-then-x-ge32 : goal.returns-then-x-ge32
returns-then-x-ge32 c = let asked = c.requires in
    (sym (held_ordering _ _ _ _ _ _ _ asked.0 c.if-x-ge32.true), omega (arith, asked.1.ordering (c.args.x - 32)))

pub loop-u-init : goal.loop-u-init
unfolding sum
loop-u-init c = (omega arith, omega (arith, c.requires.1.option c.args.x))

pub loop-u-preserved : goal.loop-u-preserved
loop-u-preserved c =
    let given = c.args in let turn = c.loop-u in
    elim c.if-touches.branch [
      | then-touches y ↦
          let e = over_yes turn.u (λ j. get_or given.orderings.now j 0) (touches_in given.self.now.first.now given.self.now.second.now given.x) (sym c.touches.ensures ∙ y.if-touches.true) in
          let h = c.requires.1.ordering turn.u in let k = y.sum-is in (omega arith, omega arith)
      | else-touches y ↦
          let e = over_no turn.u (λ j. get_or given.orderings.now j 0) (touches_in given.self.now.first.now given.self.now.second.now given.x) (sym c.touches.ensures ∙ y.if-touches.false) in
          let k = y.sum-is in (omega arith, omega arith)
    ]

pub returns : goal.returns
returns c = let given = c.args in let turn = c.loop-u in
    let e = le_antisymm turn.auto.u-end c.loop-u-test.false in (
      turn.invariant.0 ∙ ap (λ k. get_or given.options.now given.x 0 + over k (λ j. get_or given.orderings.now j 0) (touches_in given.self.now.first.now given.self.now.second.now given.x)) e
          ∙ sym (held_option _ _ _ _ _ _ _ c.requires.0 c.if-x-ge32.false),
      omega arith,
    )
