-- The last line of a text.
use Rattle.std.specs.Prelude.{ℕ, suc, ◌+◌, Bool, true, false, cond, List, [], ◌∷◌, eqb}
use Rattle.shape.specs.Grammar.{run}
use Rattle.shape.specs.declared.shape.Section.TheVariants.{Trailer}
use Rattle.shape.specs.declared.shape.State.{State}
use Rattle.shape.specs.declared.shape.State.TheVariants.{Start, Gap, First, Digit, Done, Dead}
use Rattle.shape.specs.declared.trailer.LastLine.{LastLine}

-- at index i of a text, with the beginning of the line that holds it, the beginning of the last whole line and how many whole lines stand before i
abbrev pub last_line_from : List ℕ → ℕ → ℕ → ℕ → ℕ → LastLine
last_line_from [] i start last n = record { start = last; lines = n }
last_line_from (b ∷ r) i start last n =
    last_line_from r (i + 1) (cond (eqb b 10) (i + 1) start) (cond (eqb b 10) start last) (cond (eqb b 10) (n + 1) n)

-- where the last whole line begins, and its number
abbrev pub last_line : List ℕ → LastLine
last_line l = last_line_from l 0 0 0 0

abbrev pub is_done : State → Bool
is_done Start = false
is_done (Gap k) = false
is_done (First k) = false
is_done (Digit k m) = false
is_done Done = true
is_done Dead = false

-- shaped as a trailer
abbrev pub is_trailer : List ℕ → Bool
is_trailer l = is_done (run Trailer Start l)

-- how many line ends a list holds
abbrev pub line_ends : List ℕ → ℕ
line_ends [] = 0
line_ends (b ∷ l) = cond (eqb b 10) (suc (line_ends l)) (line_ends l)

-- whether a list ends with a line end; of an empty list the answer is given
abbrev pub whole_lines : Bool → List ℕ → Bool
whole_lines t [] = t
whole_lines t (b ∷ l) = whole_lines (eqb b 10) l
