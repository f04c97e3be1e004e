-- The text of a number and of a line.
use Rattle.std.specs.Prelude.{ℕ, zero, suc, ◌+◌, ◌/◌, ◌%◌, Bool, true, false, List, [], ◌∷◌, ◌++◌, ltb}

-- nothing before a number's first digit
abbrev pub unless_first : Bool → (ℕ → List ℕ) → ℕ → List ℕ
unless_first true before n = []
unless_first false before n = before n

-- the digits of n, at most k of them
unfoldable pub digits : ℕ → ℕ → List ℕ
digits zero n = []
digits (suc k) n = unless_first (ltb n 10) (digits k) (n / 10) ++ ((48 + n % 10) ∷ [])

-- a number of any size in decimal, without a leading 0: n + 1 digits are room enough for any n
unfoldable pub decimal : ℕ → List ℕ
decimal n = digits (suc n) n

-- each number after a space, and the line end
abbrev pub fields_text : List ℕ → List ℕ
fields_text [] = 10 ∷ []
fields_text (n ∷ ns) = 32 ∷ decimal n ++ fields_text ns

-- a line: its letter, its numbers, each after a space, and the line end
abbrev pub line_text : ℕ → List ℕ → List ℕ
line_text c ns = c ∷ fields_text ns
