-- What still holds something.
use Rattle.std.specs.Prelude.{◌≡◌, Bool, not, ◌&&◌, List, ℕ, ◌<◌, length, get_or, eqb}
use Rattle.rules.specs.Slots.{some_below}
use Rattle.rows.specs.Bits.{has}
use Rattle.rows.specs.Sets.{cell}

-- Item i is open and something is left of it.
abbrev pub holds_some : (left : List ℕ) (open_items i : ℕ) → Bool
holds_some left open_items i = has open_items i && not (eqb (get_or left i 0) 0)

-- Row p holds q exactly if an open ordering of p before q still holds something.
pub record Soft (firsts seconds left : List ℕ) (open_orderings m : ℕ) (r : List ℕ) : Type 0 where
  pub size : length r ≡ 32
  pub at : (p q : ℕ) → p < 32 → cell r p q ≡ some_below m (λ u. holds_some left open_orderings u && (eqb (get_or firsts u 0) p && eqb (get_or seconds u 0) q))
