-- An end by what is charged, what is left, or what is kept besides: all are laws of stepping.
use mathlib.Core.Path.{refl}
use Rattle.settle.specs.laws.Stepping.{over_after_forcing, left_after_forcing, kept_after_forcing}
use Rattle.settle.proofs.settling.after_forcing.Goals as goal

pub returns-then-h-want : goal.returns-then-h-want
returns-then-h-want c = over_after_forcing _ _ _ _ _ _ c.transposed-after.ensures c.bound-c.ensures c.if-h-want.true

pub returns-in-None : goal.returns-in-None
returns-in-None c = left_after_forcing _ c.sets_of-g.ensures _ c.left_with.ensures

pub returns-in-Some : goal.returns-in-Some
returns-in-Some c = kept_after_forcing _ _ _ _ _ _ c.transposed-after.ensures c.bound-c.ensures _ _ c.sets_of-g.ensures _ c.in-Some.ensures c.if-h-want.false refl
