-- A table of rows turned over.
use Rattle.std.specs.Prelude.{◌≡◌, ◌&&◌, List, ℕ, ◌<◌, length, ltb}
use Rattle.rows.specs.Sets.{cell}

-- Entries below k hold i exactly if entry i of the table, below n, holds them; the entries from k hold nothing.
pub record Transposed (t : List ℕ) (n k : ℕ) (r : List ℕ) : Type 0 where
  pub size : length r ≡ 32
  pub at : (j i : ℕ) → j < 32 → cell r j i ≡ (ltb j k && (ltb i n && cell t i j))
