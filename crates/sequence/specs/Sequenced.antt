-- What sequencing works out about a full decision, in the words of the rules.
use Rattle.std.specs.Prelude.{◌≡◌, Bool, not, ◌&&◌, cond, Option, Some, None, List, map, ℕ, ◌<◌, get_or}
use Rattle.rules.specs.Slots.{some_below}
use Rattle.rules.specs.Subscription.{Subscription}
use Rattle.rows.specs.Sets.{Holds}
use Rattle.graph.specs.Shown.{counted, Shows}
use Rattle.rules.specs.Results.{placed, acyclic, lacks_an_option}
use Rattle.rules.specs.Sequence.{precedes, kept_slots}
use Rattle.rules.specs.Relaxation.{KeptBySlot}
use Rattle.sequence.specs.Padded.{places_of}
use Rattle.chart.specs.Chart.{BySlot}
use Rattle.given.specs.declared.sets.Given.{Given}
use Rattle.sheet.specs.declared.count.Number.{Number}

-- Is the choice c a consistent relaxation?
unfoldable pub is_consistent_as : Subscription → KeptBySlot → Bool
is_consistent_as v c = not (some_below v.ordering_count (lacks_an_option v c)) && acyclic v c

abbrev pub sequence_as : Subscription → KeptBySlot → List ℕ
sequence_as v c = map v.number (placed v.number (precedes v c) v.option_count (kept_slots v c))

-- The places, zeros past the last, if the choice is a consistent relaxation.
unfoldable pub placed_as : Subscription → KeptBySlot → Option (List Number)
placed_as v c = cond (is_consistent_as v c) (Some (places_of 32 (sequence_as v c))) None

-- The sets are those of the choice.
pub record Keeps (c : KeptBySlot) (n m : ℕ) (g : Given) : Type 0 where
  pub option : Holds g.kept n c.option
  pub ordering : Holds g.kept_orderings m c.ordering

-- Whatever subscription the chart shows with these numbers, and whatever choice the sets are.
abbrev pub PlacedBy : BySlot → (numbers : List ℕ) → Given → Option (List Number) → Type 0
PlacedBy chart numbers g r = let n = chart.option_count in let m = chart.ordering_count in
    (v : Subscription) (c : KeptBySlot) → Shows v n m chart.firsts chart.seconds chart.rows → ((i : ℕ) → i < n → v.number i ≡ get_or numbers i 0) → Keeps c n m g → r ≡ placed_as (counted n m v) c
