-- What a row and a table of rows hold, as tests.
use Rattle.std.specs.Prelude.{◌≡◌, Bool, ◌&&◌, List, ℕ, ◌<◌, get_or, ltb}
use Rattle.rows.specs.Bits.{has}

-- The row holds exactly the slots below n that pass the test.
pub record Holds (row n : ℕ) (p : ℕ → Bool) : Type 0 where
  pub at : (j : ℕ) → has row j ≡ (ltb j n && p j)

-- What a table of rows says of two slots.
abbrev pub cell : List ℕ → ℕ → ℕ → Bool
cell t p q = has (get_or t p 0) q

-- In its first n rows and columns the table says what the relation says.
pub record Table (t : List ℕ) (n : ℕ) (e : ℕ → ℕ → Bool) : Type 0 where
  pub at : (p q : ℕ) → p < n → q < n → cell t p q ≡ e p q
