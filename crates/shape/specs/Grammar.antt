-- The lines of an order sheet, as sets of byte lists: one space stands between fields, and each line ends with byte 10.
use Rattle.std.specs.Prelude.{ℕ, suc, ◌≤◌, ◌≡◌, List, [], ◌∷◌, ◌++◌, length}
use Rattle.shape.specs.Shape.{next_state}
use Rattle.shape.specs.declared.shape.Section.{Section}
use Rattle.shape.specs.declared.shape.Section.TheVariants.{Catalogue, Options, Orderings, Trailer}
use Rattle.shape.specs.declared.shape.State.{State}

pub data Digits : List ℕ → Type 0 where
  none : Digits []
  more : {b : ℕ} {bs : List ℕ} → 48 ≤ b → b ≤ 57 → Digits bs → Digits (b ∷ bs)

-- a number is `0`, or one to five digits of which the first is not 0
pub data Numeral : List ℕ → Type 0 where
  nought : Numeral (48 ∷ [])
  long : {b : ℕ} {bs : List ℕ} → 49 ≤ b → b ≤ 57 → Digits bs → length bs ≤ 4 → Numeral (b ∷ bs)

-- k fields, each a number after one space, and the line end
pub data Fields : ℕ → List ℕ → Type 0 where
  end : Fields 0 (10 ∷ [])
  field : {k : ℕ} {a r l : List ℕ} → Numeral a → Fields k r → l ≡ a ++ r → Fields (suc k) (32 ∷ l)

-- `C a b`, `X a b`, `F a w`, `U a b w`, `T f u t`
pub data Letter : Section → ℕ → Type 0 where
  is_C : Letter Catalogue 67
  is_X : Letter Catalogue 88
  is_F : Letter Options 70
  is_U : Letter Orderings 85
  is_T : Letter Trailer 84

-- how many numbers follow the letter
abbrev pub field_count : Section → ℕ
field_count Catalogue = 2
field_count Options = 2
field_count Orderings = 3
field_count Trailer = 3

-- a well-shaped line of a section
pub data Line : Section → List ℕ → Type 0 where
  line : {sec : Section} {b : ℕ} {l : List ℕ} → Letter sec b → Fields (field_count sec) l → Line sec (b ∷ l)

-- bytes with which a well-shaped line of the section begins
abbrev pub CouldBegin : Section → List ℕ → Type 0
CouldBegin sec p = (q : List ℕ) × Line sec (p ++ q)

-- the automaton along a list
abbrev pub run : Section → State → List ℕ → State
run sec st [] = st
run sec st (b ∷ l) = run sec (next_state sec st b) l
