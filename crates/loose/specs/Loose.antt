-- What the code finds out about the two sides of an item, by sets of options.
use Rattle.std.specs.Prelude.{◌≡◌, true, false, ◌&&◌, ◌⊎◌, List, ℕ, ◌≤◌, ◌<◌, get_or, eqb}
use Rattle.rules.specs.Slots.{some_below}
use Rattle.rows.specs.Bits.{has}
use Rattle.rows.specs.Sets.{cell}
use Rattle.links.specs.Links.{OptionAt}

-- The options at which the orderings of a set begin, or end, by the array of that end.
pub record EndsOf (orderings : ℕ) (ends : List ℕ) (m r : ℕ) : Type 0 where
  pub at : (j : ℕ) → has r j ≡ some_below m (λ u. has orderings u && eqb (get_or ends u 0) j)

-- One table has in row q, column p what the other has in row p, column q.
pub record Transposed (known after : List ℕ) (n : ℕ) : Type 0 where
  pub at : (p q : ℕ) → p < n → q < n → cell after q p ≡ cell known p q

-- An item that is an ordering has no open option.
pub record ClosedEnds (opens a b x : ℕ) : Type 0 where
  pub first : 32 ≤ x → has opens a ≡ false
  pub second : 32 ≤ x → has opens b ≡ false

-- No open option is in the row, no open ordering sets out from the row and, for an ordering, none from o.
pub record FreeSide (row opens ends o x : ℕ) : Type 0 where
  pub option : (j : ℕ) → has row j ≡ true → has opens j ≡ true → ⊥
  pub ordering : (j : ℕ) → has row j ≡ true → has ends j ≡ true → ⊥
  pub own : 32 ≤ x → has ends o ≡ false

pub record LooseBy (known after firsts seconds : List ℕ) (n opens begins ends x : ℕ) : Type 0 where
  pub from : ℕ
  pub to : ℕ
  pub begins_at : OptionAt firsts n x from
  pub ends_at : OptionAt seconds n x to
  pub closed_ends : ClosedEnds opens from to x
  pub free : FreeSide (get_or known to 0) opens begins to x ⊎ FreeSide (get_or after from 0) opens ends from x
