-- The forced decisions, as the code holds them.
use Rattle.std.specs.Prelude.{◌≡◌, Bool, ◌&&◌, ◌||◌, List, ℕ, get_or, eqb}
use Rattle.rules.specs.Slots.{some_below}
use Rattle.rules.specs.Subscription.{Subscription}
use Rattle.rules.specs.Decisions.{DecidedBySlot}
use Rattle.rules.specs.KnownBefore.{ordering_kept, option_kept, known_before}
use Rattle.rules.specs.Forced.{option_dropped, ordering_dropped, contradiction}
use Rattle.rows.specs.Bits.{has}
use Rattle.rows.specs.Sets.{Holds, Table}
use Rattle.given.specs.Given.{Gives}
use Rattle.graph.specs.Shown.{counted, Shows}
use Rattle.chart.specs.Chart.{BySlot}
use Rattle.given.specs.declared.sets.Given.{Given}
use Rattle.forced.specs.declared.forcing.Forced.{Forced}

-- Ordering u is kept and touches option j.
abbrev pub kept_touching : (kept_orderings : ℕ) (firsts seconds : List ℕ) → ℕ → ℕ → Bool
kept_touching kept_orderings firsts seconds j u = has kept_orderings u && (eqb (get_or firsts u 0) j || eqb (get_or seconds u 0) j)

-- The options given, and both options of the kept ones of the first m orderings.
pub record KeptWithEnds (given kept_orderings : ℕ) (firsts seconds : List ℕ) (m r : ℕ) : Type 0 where
  pub at : (j : ℕ) → has r j ≡ (has given j || some_below m (kept_touching kept_orderings firsts seconds j))

-- Everything that the decisions b force on the subscription v.
pub record ForcedAs (v : Subscription) (b : DecidedBySlot) (r : Forced) : Type 0 where
  pub kept : Holds r.kept v.option_count (option_kept v b)
  pub dropped : Holds r.dropped v.option_count (option_dropped v b)
  pub kept_orderings : Holds r.kept_orderings v.ordering_count (ordering_kept v b)
  pub dropped_orderings : Holds r.dropped_orderings v.ordering_count (ordering_dropped v b)
  pub known : Table r.known v.option_count (known_before v b)
  pub contradicts : r.contradiction ≡ contradiction v b

-- Whatever subscription the chart shows, and whatever decisions give these sets.
abbrev pub ForcedBy : BySlot → Given → Forced → Type 0
ForcedBy chart g r = let n = chart.option_count in let m = chart.ordering_count in
    (v : Subscription) (b : DecidedBySlot) → Shows v n m chart.firsts chart.seconds chart.rows → Gives b n m g → ForcedAs (counted n m v) b r
