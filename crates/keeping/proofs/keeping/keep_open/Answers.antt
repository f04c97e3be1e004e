-- A slot that may be kept is put in, any other is passed over.
use Rattle.std.proofs.Common.{sym, ap, ◌∙◌}
use Rattle.keeping.specs.laws.Keeping.{added_passed, added_put}
use Rattle.keeping.proofs.keeping.keep_open.Goals.{then-get+then-may, else-get}
use Rattle.keeping.proofs.keeping.keep_open.Goals as goal

pub loop-i-preserved : goal.loop-i-preserved
loop-i-preserved g c = elim c.if-get.branch [
  | then-get+then-may w ↦ added_put c.loop-i.invariant (sym c.get.ensures ∙ w.if-get.true) w.if-may.ensures (ap g.S.Slots.bits w.set-is ∙ w.put-set.ensures)
  | else-get w ↦ added_passed c.loop-i.invariant (ap g.S.Slots.bits w.set-is)
]
