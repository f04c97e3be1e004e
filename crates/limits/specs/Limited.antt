-- What is worked out about a half-decided sheet, in the words of the rules.
use Rattle.std.specs.Prelude.{◌≡◌, Bool, true, false, cond, replicate}
use Rattle.rules.specs.Subscription.{Subscription}
use Rattle.rules.specs.Decisions.{DecidedBySlot}
use Rattle.rules.specs.KnownBefore.{ordering_kept, option_kept}
use Rattle.rules.specs.Forced.{option_dropped, ordering_dropped, contradiction, decision_of}
use Rattle.rules.specs.Limits.{whole_lower, whole_upper}
use Rattle.given.specs.Given.{undecided, Gives, choice_of}
use Rattle.graph.specs.Shown.{counted, Shows}
use Rattle.rules.specs.Results.{option_limit, ordering_limit}
use Rattle.chart.specs.Arrays.{Weighs}
use Rattle.cells.specs.Cells.{no_limit, shown_limit}
use Rattle.given.specs.Filled.{filled}
use Rattle.chart.specs.Chart.{BySlot}
use Rattle.given.specs.declared.sets.Given.{Given}
use Rattle.limits.specs.declared.whole.Limited.{Limited}

-- Everything open and all limits zero, beside a contradiction or none.
abbrev pub nothing_but : Bool → Limited
nothing_but contradicts = record {
  contradiction = contradicts;
  decisions = record { options = replicate 32 undecided; orderings = replicate 64 undecided };
  lower = 0;
  upper = 0;
  options = replicate 32 no_limit;
  orderings = replicate 64 no_limit;
}

-- A contradiction: "its decisions are then all open and its limits all zero."
abbrev pub contradictory : Limited
contradictory = nothing_but true

abbrev pub without_contradiction : Subscription → DecidedBySlot → Limited
without_contradiction v b = record {
  contradiction = false;
  decisions = record {
    options = filled 32 v.option_count (λ i. choice_of (decision_of (option_kept v b i) (option_dropped v b i))) undecided;
    orderings = filled 64 v.ordering_count (λ u. choice_of (decision_of (ordering_kept v b u) (ordering_dropped v b u))) undecided;
  };
  lower = whole_lower v b;
  upper = whole_upper v b;
  options = filled 32 v.option_count (λ i. shown_limit (option_limit v b i)) no_limit;
  orderings = filled 64 v.ordering_count (λ u. shown_limit (ordering_limit v b u)) no_limit;
}

unfoldable pub limited_as : Subscription → DecidedBySlot → Limited
limited_as v b = cond (contradiction v b) contradictory (without_contradiction v b)

-- Whatever subscription the chart shows, and whatever decisions give these sets.
abbrev pub LimitedBy : BySlot → Given → Limited → Type 0
LimitedBy chart g r = let n = chart.option_count in let m = chart.ordering_count in
    (v : Subscription) (b : DecidedBySlot) → Shows v n m chart.firsts chart.seconds chart.rows → Weighs v n m chart.weights chart.ordering_weights → Gives b n m g → r ≡ limited_as (counted n m v) b
