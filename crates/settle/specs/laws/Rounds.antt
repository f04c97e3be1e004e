-- What one round comes to, as a step: an end, the forced decisions, what is charged, more that is kept.
use Rattle.std.specs.Prelude.{◌≡◌, refl, false, List, ℕ, ◌+◌, ◌-◌, ◌≤◌, ◌<◌, Option, Some, None, IfSome}
use Rattle.chart.specs.Chart.{BySlot, Known}
use Rattle.std.proofs.Common.{sym, subst, arith}
use Rattle.rules.specs.Decisions.{open_items}
use Rattle.forced.specs.Forced.{ForcedBy}
use Rattle.half.specs.Half.{HalfDecidedAs}
use Rattle.graph.specs.Transposed as C
use Rattle.residual.specs.Left.{rest}
use Rattle.bound.specs.Bound.{BoundedAs}
use Rattle.given.specs.declared.sets.Given.{Given}
use Rattle.forced.specs.declared.forcing.Forced.{Forced}
use Rattle.half.specs.declared.opened.Half.{Half}
use Rattle.bound.specs.declared.charging.Charged.{Charged}
use Rattle.keeping.specs.Sets.{decisions_of, Apart, sets_of}
use Rattle.keeping.specs.Keeping.{KeptMore}
use Rattle.settle.specs.Settled.{left_with, NothingWorth, SettledAs, GoesOn, StepAs}
use Rattle.settle.specs.laws.Forcing.{forced_settles, forced_are_left}
use Rattle.settle.specs.laws.Stepping.{charged_settles, kept_goes_on}
use Rattle.settle.specs.declared.settling.Settled.{Settled}
use Rattle.settle.specs.declared.settling.Step.{Step}
use Rattle.settle.specs.declared.settling.Step.TheVariants.{Over, Done, Again}

-- An end as a step.
abbrev pub ended : Option Settled → Step
ended None = Over
ended (Some x) = Done x

-- The next step after items that may have been kept besides.
abbrev pub kept_besides : Given → Half → Option Given → Step
kept_besides g h None = Done (left_with g h)
kept_besides g h (Some more) = Again more

-- Where nothing that agrees is worth what is wanted, that is the end.
pub over_settles : (chart : BySlot) (want : ℕ) (g : Given) (x : Option Settled) → x ≡ None → NothingWorth chart want g → SettledAs chart want g x
over_settles chart want g x e h = subst (SettledAs chart want g) (sym e) (record { over = h; left = tt })

-- An end is settled: there is no other round.
pub step_ended : (chart : BySlot) (want : ℕ) (g : Given) (x : Option Settled) → SettledAs chart want g x → StepAs chart want g (ended x)
step_ended chart want g None w = w.over
step_ended chart want g (Some x) w = w.left

pub step_forced : (chart : BySlot) (known : Known chart) (want : ℕ) (g : Given) (apart : Apart chart g) (f : Forced) (by : ForcedBy chart g f)
    (h : Half) (half : HalfDecidedAs chart f h) (e : f.contradiction ≡ false) (left : Given) → left ≡ sets_of f → (x : Step) → x ≡ Done (left_with left h) → StepAs chart want g x
step_forced chart known want g apart f by h half e left sets x is = subst (StepAs chart want g) (sym is) (forced_are_left chart want g apart f by h half e known.of_a_sheet left sets (left_with left h) refl)

-- ---- after the forced decisions
module _ (chart : BySlot) (known : Known chart) (want : ℕ) (g : Given) (apart : Apart chart g) (f : Forced) (by : ForcedBy chart g f)
    (h : Half) (half : HalfDecidedAs chart f h) (e : f.contradiction ≡ false) (after : List ℕ) (turn : C.Transposed h.known chart.option_count chart.option_count after)
    (c : Charged) (bounded : BoundedAs chart h.known h.open_options h.open_orderings c) where
  -- what is charged brings the limit below what is wanted
  pub step_charged : (x : Step) → x ≡ Over → h.upper < want + c.charged → StepAs chart want g x
  step_charged x is l = subst (StepAs chart want g) (sym is) (charged_settles chart known want g apart f by h half e after turn c bounded l)

  -- items are kept besides, or none is and the forced decisions are left
  pub step_kept : (spare : ℕ) (x : Option Given) → IfSome x (KeptMore chart h after (rest c.left) spare (sets_of f)) → want + c.charged ≤ h.upper → spare ≡ h.upper - want - c.charged
      → StepAs chart want g (kept_besides (sets_of f) h x)
  step_kept spare None kept low es = forced_settles chart want g apart f by h half e known.of_a_sheet
  step_kept spare (Some more) kept low es = kept_goes_on chart known want g apart f by h half e after turn c bounded spare more kept low es

-- ---- round after round
pub step_falls : (chart : BySlot) (want : ℕ) (g more : Given) → StepAs chart want g (Again more) → (t : ℕ) → open_items (decisions_of chart g) ≡ t → open_items (decisions_of chart more) < t
step_falls chart want g more step t q = let w : GoesOn chart want g more = step in let a = w.fewer in omega arith
