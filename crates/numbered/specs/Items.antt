-- Items by number, and what the ends of orderings say of them.
use Rattle.std.specs.Prelude.{Bool, true, false, List, ℕ, ◌-◌, ◌≤◌, ◌<◌, get_or, ltb}
use Rattle.rules.specs.Subscription.{Subscription}
use Rattle.rules.specs.laws.search.Items.{Item, option, ordering}

abbrev pub item_of : Bool → ℕ → Item
item_of true x = option x
item_of false x = ordering (x - 32)

-- An item by its number: option i is i, ordering u is 32 + u.
unfoldable pub numbered : ℕ → Item
numbered x = item_of (ltb x 32) x

-- An item's number names an option or an ordering of the sheet.
pub record Named (n m x : ℕ) : Type 0 where
  pub option : x < 32 → x < n
  pub ordering : 32 ≤ x → x - 32 < m

-- What the ends of the orderings alone say of a sheet: counts, and no weight and no catalogue.
unfoldable pub ends_only : ℕ → ℕ → List ℕ → List ℕ → Subscription
ends_only n m firsts seconds = record {
  option_count = n;
  ordering_count = m;
  number = λ i. 0;
  weight = λ i. 0;
  first = λ u. get_or firsts u 0;
  second = λ u. get_or seconds u 0;
  ordering_weight = λ u. 0;
  before = λ i j. false;
}
