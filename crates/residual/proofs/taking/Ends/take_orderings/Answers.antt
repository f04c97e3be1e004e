-- Each turn takes from one ordering more, if it touches the option.
use mathlib.Core.Path.{sym, ◌∙◌}
use native.Mathlib.Omega.{arith}
use Rattle.residual.specs.laws.Taken.{took_none, took_no, took_yes, took_as}
use Rattle.residual.proofs.taking.Ends.take_orderings.Goals as goal
use Rattle.residual.proofs.taking.Ends.take_orderings.Goals.{then-touches, else-touches}

pub loop-u-init : goal.loop-u-init
loop-u-init c = took_none _ _ _ _ _

pub loop-u-preserved : goal.loop-u-preserved
loop-u-preserved c =
    let turn = c.loop-u in
    elim c.if-touches.branch [
      | then-touches y ↦ took_as _ _ _ _ _ _ _ _ _ _ y.orderings-is y.rest-is
          (took_yes _ _ _ _ _ turn.u turn.orderings turn.rest _ _ turn.invariant (omega arith) (sym c.touches.ensures ∙ y.if-touches.true) y.take_at-rest.ensures)
      | else-touches y ↦ took_as _ _ _ _ _ _ _ _ _ _ y.orderings-is y.rest-is
          (took_no _ _ _ _ _ turn.u turn.orderings turn.rest turn.invariant (sym c.touches.ensures ∙ y.if-touches.false))
    ]
