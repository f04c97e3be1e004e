-- The set grows slot by slot.
use Rattle.std.specs.Prelude.{true}
use Rattle.keeping.specs.Keeping.{AddedTo}
use Rattle.keeping.proofs.keeping.keep_open.Given as goal

abbrev pub invariant-loop-i : goal.invariant-loop-i
invariant-loop-i g l = AddedTo (g.S.Slots.bits l.fn.kept) (g.S.Slots.bits l.set) (g.S.Slots.bits l.opens) l.i (λ k. goal.F-post g l.may k true)
