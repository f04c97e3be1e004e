-- What catalogue lines say about subscribed options.
use Rattle.std.specs.Prelude.{◌≡◌, ◌&&◌, ◌||◌, cond, List, ℕ, ◌<◌, get_or, eqb}
use Rattle.rules.specs.Slots.{list_of}
use Rattle.rules.specs.Lines.{CatalogueLine, catalogue_puts_before, puts_before}
use Rattle.rows.specs.Sets.{cell}
use Rattle.slots.specs.Slots.{TableOf}
use Rattle.rules.specs.Lines.{C, X}

-- A catalogue line by its letter: 67 is C, 88 is X.
abbrev pub line_of : ℕ → ℕ → ℕ → CatalogueLine
line_of letter x y = cond (eqb letter 88) (X x y) (C x y)

-- The first k lines of the catalogue.
abbrev pub catalogue_of : (letters befores afters : List ℕ) → ℕ → List CatalogueLine
catalogue_of letters befores afters k = list_of k (λ l. line_of (get_or letters l 0) (get_or befores l 0) (get_or afters l 0))

-- The rows with slot i before slot j in them, if both are slots.
pub record WithPair (n : ℕ) (t : List ℕ) (i j : ℕ) (r : List ℕ) : Type 0 where
  pub at : (p q : ℕ) → p < n → q < n → cell r p q ≡ (cell t p q || (eqb i p && eqb j q))

-- The rows with what one line says, its options named by their slots.
pub record WithLine (n : ℕ) (t : List ℕ) (line : CatalogueLine) (r : List ℕ) : Type 0 where
  pub at : (p q : ℕ) → p < n → q < n → cell r p q ≡ (cell t p q || puts_before p q line)

-- The rows say of two slots what the first k lines say of their options.
pub record SaysCatalogue (n : ℕ) (numbers letters befores afters : List ℕ) (k : ℕ) (r : List ℕ) : Type 0 where
  pub at : (p q : ℕ) → p < n → q < n → cell r p q ≡ catalogue_puts_before (catalogue_of letters befores afters k) (get_or numbers p 0) (get_or numbers q 0)

-- The same, with the slots read off a table, whatever numbers the table is of.
pub record SaysBy (n : ℕ) (table letters befores afters : List ℕ) (k : ℕ) (r : List ℕ) : Type 0 where
  pub of : (numbers : List ℕ) → TableOf n numbers table → SaysCatalogue n numbers letters befores afters k r
