-- Each turn compares the best so far with one slot more, if that can be next.
use Rattle.std.proofs.Common.{sym, subst, ◌∙◌, arith, ◌<◌, length, IfSome}
use Rattle.placing.specs.laws.Next.{smallest_none, smallest_step, smallest_stays, found_below}
use Rattle.placing.proofs.place.next.Goals.{then-can_be_next, else-can_be_next}
use Rattle.placing.proofs.place.next.Goals as goal

pub loop-i-init : goal.loop-i-init
loop-i-init c = smallest_none c.args.t.now c.args.numbers.now c.args.n c.args.left

pub smaller-requires-clause-best : goal.smaller-requires-clause-best
smaller-requires-clause-best c = subst (λ o. IfSome o (λ b. b < length c.args.numbers.now)) (sym c.loop-i.invariant) (found_below c.args.t.now c.args.numbers.now c.args.n c.args.left c.loop-i.i _ (omega arith))

pub loop-i-preserved : goal.loop-i-preserved
loop-i-preserved c = elim c.if-can_be_next.branch [
  | then-can_be_next w ↦ w.best-is ∙ smallest_step c.args.t.now _ _ c.args.left c.loop-i.i c.loop-i.invariant (sym c.can_be_next.ensures ∙ w.if-can_be_next.true) w.smaller.ensures
  | else-can_be_next w ↦ w.best-is ∙ smallest_stays c.args.t.now c.args.numbers.now _ c.args.left c.loop-i.i c.loop-i.invariant (sym c.can_be_next.ensures ∙ w.if-can_be_next.false)
]

pub returns-clause-within : goal.returns-clause-within
returns-clause-within c = subst (λ o. IfSome o (λ b. b < c.args.n)) (sym c.loop-i.invariant) (found_below c.args.t.now c.args.numbers.now c.args.n c.args.left c.loop-i.i _ (omega arith))
