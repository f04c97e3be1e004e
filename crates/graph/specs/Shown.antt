-- The arrays that the code works on show a subscription of the rules.
use Rattle.std.specs.Prelude.{◌≡◌, List, ℕ, ◌<◌, get_or}
use Rattle.rules.specs.Subscription.{Subscription}
use Rattle.rows.specs.Sets.{cell}

-- A subscription with n options and m orderings.
abbrev pub counted : ℕ → ℕ → Subscription → Subscription
counted n m v = record {
  option_count = n;
  ordering_count = m;
  number = v.number;
  weight = v.weight;
  first = v.first;
  second = v.second;
  ordering_weight = v.ordering_weight;
  before = v.before;
}

-- The ends of its orderings, by slot, and the catalogue's rows.
pub record Shows (v : Subscription) (n m : ℕ) (firsts seconds rows : List ℕ) : Type 0 where
  pub first : (u : ℕ) → u < m → v.first u ≡ get_or firsts u 0
  pub second : (u : ℕ) → u < m → v.second u ≡ get_or seconds u 0
  pub before : (i j : ℕ) → i < n → j < n → v.before i j ≡ cell rows i j
