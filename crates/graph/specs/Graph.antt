-- Graphs over slots as tables of rows: orderings put in, and joined through middles.
use Rattle.std.specs.Prelude.{◌≡◌, Bool, ◌&&◌, ◌||◌, List, ℕ, ◌≤◌, ◌<◌, length, get_or, eqb, ltb}
use Rattle.rules.specs.Slots.{some_below, slots}
use Rattle.rules.specs.Joined.{through}
use Rattle.rows.specs.Bits.{has}
use Rattle.rows.specs.Sets.{cell}

-- Few enough options and orderings, and each ordering names two options of the sheet by slot.
pub record EndsAreSlots (n m : ℕ) (firsts seconds : List ℕ) : Type 0 where
  pub few_options : n ≤ 32
  pub few_orderings : m ≤ 64
  pub first_size : m ≤ length firsts
  pub second_size : m ≤ length seconds
  pub first : (u : ℕ) → u < m → get_or firsts u 0 < n
  pub second : (u : ℕ) → u < m → get_or seconds u 0 < n

-- Ordering u is kept and asks for p before q.
abbrev pub kept_putting_first : (kept_orderings : ℕ) (firsts seconds : List ℕ) → ℕ → ℕ → ℕ → Bool
kept_putting_first kept_orderings firsts seconds p q u = has kept_orderings u && (eqb (get_or firsts u 0) p && eqb (get_or seconds u 0) q)

-- The table with the kept ones of the first m orderings in it.
pub record WithOrderings (t : List ℕ) (kept_orderings : ℕ) (firsts seconds : List ℕ) (m : ℕ) (r : List ℕ) : Type 0 where
  pub size : length r ≡ 32
  pub at : (p q : ℕ) → p < 32 → cell r p q ≡ (cell t p q || some_below m (kept_putting_first kept_orderings firsts seconds p q))

-- The first i rows of the table, joined through c.
pub record JoinedThrough (t : List ℕ) (c i : ℕ) (r : List ℕ) : Type 0 where
  pub size : length r ≡ 32
  pub at : (p q : ℕ) → p < 32 → cell r p q ≡ (cell t p q || ((ltb p i && cell t p c) && cell t c q))

-- The table joined through the middles below k, in its first n rows and columns.
pub record JoinedThroughAll (t : List ℕ) (kept n k : ℕ) (r : List ℕ) : Type 0 where
  pub size : length r ≡ 32
  pub at : (p q : ℕ) → p < n → q < n → cell r p q ≡ through (cell t) (slots k (has kept)) p q
