-- The graph of a full decision as a table of rows.
use Rattle.std.specs.Prelude.{◌≡◌, Bool, not, ◌&&◌, List, ℕ, ◌<◌, length, get_or}
use Rattle.rows.specs.Bits.{has}
use Rattle.rows.specs.Sets.{cell}

-- The table between kept options, in its first n rows.
pub record BetweenKept (t : List ℕ) (kept n : ℕ) (r : List ℕ) : Type 0 where
  pub size : length r ≡ 32
  pub at : (p q : ℕ) → p < n → cell r p q ≡ (cell t p q && (has kept p && has kept q))

-- Ordering u is kept and lacks an option.
abbrev pub lacks : (kept kept_orderings : ℕ) (firsts seconds : List ℕ) → ℕ → Bool
lacks kept kept_orderings firsts seconds u = has kept_orderings u && not (has kept (get_or firsts u 0) && has kept (get_or seconds u 0))
