-- A relation joined through given middles, as the least such relation and as a test.
use Rattle.std.specs.Prelude.{Bool, ◌&&◌, ◌||◌, List, [], ◌∷◌, ℕ}

-- The least relation that holds B and is joined through each middle that K allows.
pub data Joined (B : ℕ → ℕ → Type 0) (K : ℕ → Type 0) : ℕ → ℕ → Type 0 where
  base : {i j : ℕ} → B i j → Joined B K i j
  join : {i j k : ℕ} → Joined B K i j → K j → Joined B K j k → Joined B K i k

-- The same, computed for the middles of a list, one middle after another.
unfoldable pub through : (ℕ → ℕ → Bool) → List ℕ → ℕ → ℕ → Bool
through b [] i j = b i j
through b (c ∷ cs) i j = through b cs i j || (through b cs i c && through b cs c j)
