-- What charging chains one after another comes to.
use Rattle.std.specs.Prelude.{List, ℕ, ◌+◌, ◌≤◌}
use Rattle.rules.specs.Subscription.{Subscription}
use Rattle.rules.specs.Decisions.{DecidedBySlot}
use Rattle.rules.specs.Limits.{option_open, ordering_open}
use Rattle.rules.specs.laws.search.Charged as R
use Rattle.rows.specs.Sets.{Holds}
use Rattle.graph.specs.Shown.{counted}
use Rattle.chart.specs.Arrays.{Weighs}
use Rattle.residual.specs.Left.{Rest, rest, residual_of, LeftFor}
use Rattle.numbered.specs.Shown.{ShowsKnown}
use Rattle.chart.specs.Chart.{BySlot}
use Rattle.bound.specs.declared.charging.Charged.{Charged}

-- The chart shows a half-decided sheet whose table this is.
abbrev pub KnownOn : BySlot → List ℕ → Subscription → DecidedBySlot → Type 0
KnownOn chart known v d = ShowsKnown v d chart.option_count chart.ordering_count known chart.firsts chart.seconds

-- So much may be charged on it if this is left of its weights.
abbrev pub ChargedOn : BySlot → Subscription → DecidedBySlot → ℕ → Rest → Type 0
ChargedOn chart v d charged left = R.Charged (counted chart.option_count chart.ordering_count v) d charged (residual_of left)

-- One charge more, of e.
pub record ChargesMore (chart : BySlot) (known : List ℕ) (e : ℕ) (left left' : Rest) : Type 0 where
  pub few : e ≤ 4259775
  pub left_in : LeftFor chart left'
  pub keeps : (before : ℕ) (v : Subscription) (d : DecidedBySlot) → KnownOn chart known v d → ChargedOn chart v d before left → ChargedOn chart v d (before + e) left'

-- On every half-decided sheet that the chart shows: if `before` was charged and this was left, then `after` is charged and that is left.
pub record KeepsCharged (chart : BySlot) (known : List ℕ) (before after : ℕ) (left left' : Rest) : Type 0 where
  pub few : after ≤ 10551136
  pub left_in : LeftFor chart left'
  pub keeps : (v : Subscription) (d : DecidedBySlot) → KnownOn chart known v d → ChargedOn chart v d before left → ChargedOn chart v d after left'

-- So much is charged on every half-decided sheet that the chart shows and whose open items these are.
pub record BoundedAs (chart : BySlot) (known : List ℕ) (open_options open_orderings : ℕ) (c : Charged) : Type 0 where
  pub few : c.charged ≤ 10551136
  pub left_in : LeftFor chart (rest c.left)
  pub charged : (v : Subscription) (d : DecidedBySlot) → KnownOn chart known v d → Weighs v chart.option_count chart.ordering_count chart.weights chart.ordering_weights
      → Holds open_options chart.option_count (option_open (counted chart.option_count chart.ordering_count v) d) → Holds open_orderings chart.ordering_count (ordering_open (counted chart.option_count chart.ordering_count v) d) → ChargedOn chart v d c.charged (rest c.left)
