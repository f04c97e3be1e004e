-- What the lines of an order sheet say, the trailer apart.
use Rattle.std.specs.Prelude.{Bool, true, false, ◌&&◌, ◌||◌, List, [], ◌∷◌, ℕ, suc, eqb}
use Rattle.rules.specs.Slots.{some_of}

-- `C a b`: a comes before b if both are kept. `X a b`: a and b are never kept together.
pub data CatalogueLine : Type 0 where
  C X : ℕ → ℕ → CatalogueLine

-- `F a w`: option a is subscribed with weight w.
pub record OptionLine : Type 0 where
  pub number : ℕ
  pub weight : ℕ

-- `U a b w`: the owner asks for a before b, with weight w.
pub record OrderingLine : Type 0 where
  pub first : ℕ
  pub second : ℕ
  pub weight : ℕ

-- "C and X lines mix freely in the first section; F lines follow, then U lines."
pub record Lines : Type 0 where
  pub catalogue : List CatalogueLine
  pub options : List OptionLine
  pub orderings : List OrderingLine

-- "An exclusion counts as two opposite precedences, as in the source."
abbrev pub puts_before : ℕ → ℕ → CatalogueLine → Bool
puts_before a b (C x y) = eqb x a && eqb y b
puts_before a b (X x y) = (eqb x a && eqb y b) || (eqb x b && eqb y a)

-- The catalogue puts option a before option b. "Repeated catalogue lines are allowed, and may name options nobody subscribed."
abbrev pub catalogue_puts_before : List CatalogueLine → ℕ → ℕ → Bool
catalogue_puts_before catalogue a b = some_of (puts_before a b) catalogue

-- The slot of an option's number: "slots follow the order of the F lines". One past the last where nobody subscribed it.
abbrev pub slot_of : ℕ → List OptionLine → ℕ
slot_of a [] = 0
slot_of a (f ∷ fs) = elim (eqb f.number a) [ true ↦ 0 | false ↦ suc (slot_of a fs) ]
