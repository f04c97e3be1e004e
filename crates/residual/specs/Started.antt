-- What is left of the items' weights before anything is charged.
use Rattle.std.specs.Prelude.{◌≡◌, List, ℕ, ◌≤◌, ◌<◌, length, get_or}
use Rattle.rules.specs.Slots.{pick}
use Rattle.rows.specs.Bits.{has}

-- An open item's weight, and nothing for any other.
pub record StartsAs (opens : ℕ) (weights : List ℕ) (size k : ℕ) (left : List ℕ) : Type 0 where
  pub long : length left ≡ size
  pub at : (i : ℕ) → i < k → get_or left i 0 ≡ pick (has opens i) (get_or weights i 0)
  pub past : (i : ℕ) → k ≤ i → get_or left i 0 ≡ 0
  pub small : (i : ℕ) → get_or left i 0 ≤ 65535
