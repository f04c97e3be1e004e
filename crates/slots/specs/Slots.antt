-- From catalogue numbers to slots.
use Rattle.std.specs.Prelude.{◌≡◌, List, ℕ, ◌≤◌, ◌<◌, length, get_or, eqb}

-- "No option subscribed twice": the first n numbers differ.
pub record NumbersDiffer (n : ℕ) (numbers : List ℕ) : Type 0 where
  pub size : n ≤ length numbers
  pub distinct : (x y : ℕ) → x < n → y < n → get_or numbers x 0 ≡ get_or numbers y 0 → x ≡ y

-- r is the slot at which the number x stands, or n.
pub record SlotOf (n : ℕ) (numbers : List ℕ) (x r : ℕ) : Type 0 where
  pub bound : r ≤ n
  pub at : (i : ℕ) → i < n → eqb x (get_or numbers i 0) ≡ eqb r i

-- Entry x of the table is the slot of the number x.
pub record TableOf (n : ℕ) (numbers r : List ℕ) : Type 0 where
  pub size : length r ≡ 256
  pub at : (x : ℕ) → x < 256 → SlotOf n numbers x (get_or r x 0)

-- The slots of the first m numbers of a list.
pub record SlotsOf (n m : ℕ) (numbers ends r : List ℕ) : Type 0 where
  pub size : length r ≡ 64
  pub at : (u : ℕ) → u < m → SlotOf n numbers (get_or ends u 0) (get_or r u 0)

-- The same, read off a table, whatever numbers the table is of.
pub record SlotsBy (table ends : List ℕ) (m : ℕ) (r : List ℕ) : Type 0 where
  pub size : length r ≡ 64
  pub of : (n : ℕ) (numbers : List ℕ) → TableOf n numbers table → SlotsOf n m numbers ends r
