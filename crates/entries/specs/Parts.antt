-- Several numbers for each entry, one entry after the other.
use Rattle.std.specs.Prelude.{ℕ}
use mathlib.Core.List.{List, flatten}
use Rattle.rules.specs.Slots.{list_of}

-- The numbers of entry 0, …, of entry n − 1.
abbrev pub parts : ℕ → (ℕ → List ℕ) → List ℕ
parts n g = flatten (list_of n g)
