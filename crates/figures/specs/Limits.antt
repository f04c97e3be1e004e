-- Limits as numbers.
use Rattle.std.specs.Prelude.{ℕ, Bool, true, false, List, [], ◌∷◌, ◌++◌, get_or}
use Rattle.cells.specs.Cells.{no_limit}
use Rattle.cells.specs.declared.cells.Limit.{Limit}
use Rattle.limits.specs.declared.whole.Limited.{Limited}
use Rattle.entries.specs.Parts.{parts}

-- Kept, lower; kept, upper; dropped, lower; dropped, upper.
abbrev pub four_of : Limit → List ℕ
four_of l = l.kept_lower ∷ l.kept_upper ∷ l.dropped_lower ∷ l.dropped_upper ∷ []

abbrev pub four_at : List Limit → ℕ → List ℕ
four_at l i = four_of (get_or l i no_limit)

-- The limits of the whole sheet, then four for each option, then four for each ordering: 386 numbers.
abbrev pub limit_numbers : Limited → List ℕ
limit_numbers l = (l.lower ∷ l.upper ∷ []) ++ (parts 32 (four_at l.options) ++ parts 64 (four_at l.orderings))

-- A contradiction "is a successful result, not a refusal": it counts 1.
abbrev pub contradictions : Bool → ℕ
contradictions true = 1
contradictions false = 0
