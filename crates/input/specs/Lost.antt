-- What an input has lost.
use Rattle.std.specs.Prelude.{ℕ, ◌≤◌, List, length, take}
use Rattle.std.specs.declared.option.Option.{Option}
use Rattle.std.specs.Io.KnownBytes.{Consumes}

-- what the known bytes lost stands at the start of the buffer; how much it is, is not told
abbrev pub LosesPart : Option (List ℕ) → Option (List ℕ) → List ℕ → Type 0
LosesPart old new buf = (n : ℕ) × (n ≤ length buf) × Consumes old new (take n buf)
