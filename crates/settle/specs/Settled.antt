-- What is left of a half-decided sheet once all that follows is decided, towards a value that is wanted.
use Rattle.std.specs.Prelude.{◌≡◌, Bool, false, not, ◌||◌, List, ℕ, ◌≤◌, ◌<◌, Option, IfSome, IfNone}
use Rattle.rules.specs.Lines.{Lines}
use Rattle.rules.specs.Relaxation.{ConsistentRelaxation, value_of}
use Rattle.rules.specs.Decisions.{Agrees, open_items}
use Rattle.rules.specs.laws.Decisions.{just_the_kept}
use Rattle.rules.specs.laws.search.Reduces.{Reduces}
use Rattle.rows.specs.Bits.{has}
use Rattle.rows.specs.Sets.{Holds}
use Rattle.forced.specs.Forced.{ForcedBy}
use Rattle.half.specs.Weights.{largest_sum}
use Rattle.half.specs.Half.{HalfDecidedAs}
use Rattle.given.specs.declared.sets.Given.{Given}
use Rattle.forced.specs.declared.forcing.Forced.{Forced}
use Rattle.half.specs.declared.opened.Half.{Half}
use Rattle.chart.specs.Chart.{BySlot, Known, ShowsSheet}
use Rattle.keeping.specs.Sets.{decisions_of, Apart}
use Rattle.settle.specs.declared.settling.Settled.{Settled}
use Rattle.settle.specs.declared.settling.Step.{Step}
use Rattle.settle.specs.declared.settling.Step.TheVariants.{Over, Done, Again}

-- The decisions that are left lose nothing that is worth what is wanted, and what they keep is itself a consistent relaxation.
pub record LeftOf (chart : BySlot) (want : ℕ) (g : Given) (x : Settled) : Type 0 where
  pub apart : Apart chart x.given
  pub options : Holds x.open_options chart.option_count (λ i. not (has x.given.kept i || has x.given.dropped i))
  pub orderings : Holds x.open_orderings chart.ordering_count (λ u. not (has x.given.kept_orderings u || has x.given.dropped_orderings u))
  pub no_more_open : open_items (decisions_of chart x.given) ≤ open_items (decisions_of chart g)
  pub small : x.lower ≤ largest_sum
  pub reduces : (s : Lines) → ShowsSheet s chart → Reduces (value_of s) (ConsistentRelaxation s) 0 want (decisions_of chart g) (decisions_of chart x.given)
  pub consistent : (s : Lines) → ShowsSheet s chart → ConsistentRelaxation s (just_the_kept (decisions_of chart x.given))
  pub worth : (s : Lines) → ShowsSheet s chart → value_of s (just_the_kept (decisions_of chart x.given)) ≡ x.lower

-- Nothing that agrees is worth what is wanted.
abbrev pub NothingWorth : (chart : BySlot) (want : ℕ) (g : Given) → Type 0
NothingWorth chart want g = (s : Lines) → ShowsSheet s chart → (r : List Bool) → ConsistentRelaxation s r → Agrees (decisions_of chart g) r → value_of s r < want

pub record SettledAs (chart : BySlot) (want : ℕ) (g : Given) (x : Option Settled) : Type 0 where
  pub over : IfNone x (NothingWorth chart want g)
  pub left : IfSome x (LeftOf chart want g)

-- More decisions: fewer items are left open and nothing is lost that is worth what is wanted.
pub record GoesOn (chart : BySlot) (want : ℕ) (g more : Given) : Type 0 where
  pub apart : Apart chart more
  pub fewer : open_items (decisions_of chart more) < open_items (decisions_of chart g)
  pub reduces : (s : Lines) → ShowsSheet s chart → Reduces (value_of s) (ConsistentRelaxation s) 0 want (decisions_of chart g) (decisions_of chart more)

-- One round: settled, or there are more decisions.
abbrev pub StepAs : (chart : BySlot) (want : ℕ) (g : Given) → Step → Type 0
StepAs chart want g Over = NothingWorth chart want g
StepAs chart want g (Done x) = LeftOf chart want g x
StepAs chart want g (Again more) = GoesOn chart want g more

-- What is left of the decisions and of what the forced ones leave open.
abbrev pub left_with : Given → Half → Settled
left_with g h = record { given = g; open_options = h.open_options; open_orderings = h.open_orderings; lower = h.lower }

-- The same with other rows.
abbrev pub with_rows : BySlot → List ℕ → BySlot
with_rows chart rows = record {
  option_count = chart.option_count;
  ordering_count = chart.ordering_count;
  rows = rows;
  firsts = chart.firsts;
  seconds = chart.seconds;
  weights = chart.weights;
  ordering_weights = chart.ordering_weights;
}

-- After forcing: a round for whatever rows and decisions these are forced by.
pub record AfterForcing (chart : BySlot) (want : ℕ) (f : Forced) (h : Half) (x : Step) : Type 0 where
  pub step : (rows : List ℕ) → Known (with_rows chart rows) → (g : Given) → Apart (with_rows chart rows) g → ForcedBy (with_rows chart rows) g f → HalfDecidedAs (with_rows chart rows) f h → f.contradiction ≡ false → StepAs (with_rows chart rows) want g x
