-- What the members of a chain hold of what is left, and what taking from each of them leaves.
use Rattle.std.specs.Prelude.{◌≡◌, List, ℕ, ◌+◌, ◌≤◌, ◌<◌, length, get_or}
use Rattle.rules.specs.laws.search.Residual.{Lower}
use Rattle.residual.specs.Taken.{residual_in, held_in}

-- What the first k members' consequences hold at the outset, and a number that is above none of it.
pub record Measured (firsts seconds : List ℕ) (n m : ℕ) (options orderings chain : List ℕ) (k least : ℕ) (was : List ℕ) : Type 0 where
  pub size : length was ≡ 64
  pub each : (p : ℕ) → p < k → get_or was p 0 ≡ held_in n m firsts seconds options orderings (get_or chain p 0)
  pub under : (p : ℕ) → p < k → least ≤ get_or was p 0

-- Each of the first k members' consequences has given e.
pub record Gave (firsts seconds : List ℕ) (n m : ℕ) (chain : List ℕ) (e k : ℕ) (options orderings options' orderings' : List ℕ) : Type 0 where
  pub option_size : length options' ≡ length options
  pub ordering_size : length orderings' ≡ length orderings
  pub lower : Lower (residual_in options' orderings') (residual_in options orderings)
  pub each : (p : ℕ) → p < k → e + held_in n m firsts seconds options' orderings' (get_or chain p 0) ≤ held_in n m firsts seconds options orderings (get_or chain p 0)
