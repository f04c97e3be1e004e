-- What is left of the items' weights, as two arrays, and what taking from it leaves.
use Rattle.std.specs.Prelude.{◌≡◌, Bool, ◌||◌, List, ℕ, ◌+◌, ◌-◌, ◌≤◌, length, get_or, set, eqb}
use Rattle.rules.specs.Slots.{over}
use Rattle.rules.specs.laws.search.Residual.{Residual, Lower, held}
use Rattle.numbered.specs.Items.{numbered, ends_only}

-- The residuals that two arrays hold.
unfoldable pub residual_in : List ℕ → List ℕ → Residual
residual_in options orderings = record { option = λ i. get_or options i 0; ordering = λ u. get_or orderings u 0 }

-- What an item's consequences hold together, by the arrays.
abbrev pub held_in : (n m : ℕ) (firsts seconds options orderings : List ℕ) → ℕ → ℕ
held_in n m firsts seconds options orderings x = held (ends_only n m firsts seconds) (residual_in options orderings) (numbered x)

-- Each item has one, and none is above the greatest weight that a record could hold: so no sum over a sheet is too great for the code.
pub record LeftIn (n m : ℕ) (options orderings : List ℕ) : Type 0 where
  pub option_size : n ≤ length options
  pub ordering_size : m ≤ length orderings
  pub option : (i : ℕ) → get_or options i 0 ≤ 65535
  pub ordering : (u : ℕ) → get_or orderings u 0 ≤ 65535

-- Each slot of a record has one, and none is above the greatest weight that a record could hold.
pub record SmallEnough (options orderings : List ℕ) : Type 0 where
  pub option_size : length options ≡ 32
  pub ordering_size : length orderings ≡ 64
  pub option : (i : ℕ) → get_or options i 0 ≤ 65535
  pub ordering : (u : ℕ) → get_or orderings u 0 ≤ 65535

-- At one slot: as much as is needed and is there.
pub record TookAt (left : List ℕ) (i need : ℕ) (left' : List ℕ) (rest : ℕ) : Type 0 where
  pub is : left' ≡ set left i (get_or left i 0 - need)
  pub rests : rest ≡ need - get_or left i 0

abbrev pub touches_in : List ℕ → List ℕ → ℕ → ℕ → Bool
touches_in firsts seconds x u = eqb (get_or firsts u 0) x || eqb (get_or seconds u 0) x

-- From the first w orderings that touch an option.
pub record TookTo (orderings firsts seconds : List ℕ) (x need w : ℕ) (orderings' : List ℕ) (rest : ℕ) : Type 0 where
  pub size : length orderings' ≡ length orderings
  pub lower : (j : ℕ) → get_or orderings' j 0 ≤ get_or orderings j 0
  pub ahead : (j : ℕ) → w ≤ j → get_or orderings' j 0 ≡ get_or orderings j 0
  pub rests : rest ≡ need - over w (λ j. get_or orderings j 0) (touches_in firsts seconds x)
  pub sums : need + over w (λ j. get_or orderings' j 0) (touches_in firsts seconds x) ≡ rest + over w (λ j. get_or orderings j 0) (touches_in firsts seconds x)

-- From an item's consequences.
pub record Took (firsts seconds : List ℕ) (n m x need : ℕ) (options orderings options' orderings' : List ℕ) : Type 0 where
  pub option_size : length options' ≡ length options
  pub ordering_size : length orderings' ≡ length orderings
  pub lower : Lower (residual_in options' orderings') (residual_in options orderings)
  pub taken : need + held_in n m firsts seconds options' orderings' x ≡ held_in n m firsts seconds options orderings x
