-- Arrays and a table that show a half-decided sheet.
use Rattle.std.specs.Prelude.{◌≡◌, List, ℕ, ◌<◌, get_or}
use Rattle.rules.specs.Subscription.{Subscription}
use Rattle.rules.specs.Decisions.{DecidedBySlot}
use Rattle.rules.specs.KnownBefore.{known_before}
use Rattle.rows.specs.Sets.{Table}
use Rattle.graph.specs.Graph.{EndsAreSlots}
use Rattle.graph.specs.Shown.{counted}

-- Its orderings' ends and what is known before what.
pub record ShowsKnown (v : Subscription) (d : DecidedBySlot) (n m : ℕ) (known firsts seconds : List ℕ) : Type 0 where
  pub ends : EndsAreSlots n m firsts seconds
  pub first : (u : ℕ) → u < m → v.first u ≡ get_or firsts u 0
  pub second : (u : ℕ) → u < m → v.second u ≡ get_or seconds u 0
  pub knows : Table known n (known_before (counted n m v) d)
