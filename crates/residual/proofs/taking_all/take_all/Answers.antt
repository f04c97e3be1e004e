-- Each turn has one member more give what is still wanted of it.
use native.Mathlib.Omega.{arith}
use Rattle.residual.specs.laws.Taken.{left_lower}
use Rattle.residual.specs.laws.TakenAll.{gave_already, gave_more, gave_as}
use Rattle.residual.proofs.taking_all.take_all.Goals as goal
use Rattle.residual.proofs.taking_all.take_all.Goals.{then-was-q, else-was-q}

pub held_by-held-requires : goal.held_by-held-requires
held_by-held-requires c = let turn = c.loop-q in
    let p = c.requires.chain_fits in let g = turn.invariant in
    (p.1.each turn.q (omega arith), left_lower _ _ _ _ _ _ g.option_size g.ordering_size g.lower p.4)

pub take-requires : goal.take-requires
take-requires c = let turn = c.loop-q in
    let p = c.requires.chain_fits in let g = turn.invariant in
    let a = c.requires.measured.0.under turn.q (omega arith) in let h = c.held_by-held.ensures.0 in
    (p.1.each turn.q (omega arith), left_lower _ _ _ _ _ _ g.option_size g.ordering_size g.lower p.4, omega arith)

pub loop-q-preserved : goal.loop-q-preserved
loop-q-preserved c =
    let turn = c.loop-q in
    let a = c.requires.measured.0.each turn.q (omega arith) in let h = c.held_by-held.ensures.0 in
    elim c.if-was-q.branch [
      | then-was-q y ↦ let t = y.if-was-q.true in gave_as _ _ _ _ _ _ _ _ _ _ _ _ _ y.options-is y.orderings-is (gave_more _ _ _ _ _ _ _ _ _ _ _ _ _ _ turn.invariant y.take.ensures (omega arith))
      | else-was-q y ↦ let t = y.if-was-q.false in gave_as _ _ _ _ _ _ _ _ _ _ _ _ _ y.options-is y.orderings-is (gave_already _ _ _ _ _ _ _ _ _ _ _ turn.invariant (omega arith))
    ]
