-- The text of a record: what the writer writes, and what an accepted sheet is.
use Rattle.std.specs.Prelude.{ℕ, zero, suc, ◌+◌, List, [], ◌∷◌, ◌++◌, get_or}
use Rattle.sheet.specs.declared.sheet.Sheet.{Sheet}
use Rattle.shape.specs.LineText.{line_text}

-- k catalogue lines, from entry i on
unfoldable pub catalogue_text : ℕ → ℕ → List ℕ → List ℕ → List ℕ → List ℕ
catalogue_text zero i letters befores afters = []
catalogue_text (suc k) i letters befores afters =
    line_text (get_or letters i 0) (get_or befores i 0 ∷ get_or afters i 0 ∷ []) ++ catalogue_text k (i + 1) letters befores afters

-- k F lines, from entry i on
unfoldable pub options_text : ℕ → ℕ → List ℕ → List ℕ → List ℕ
options_text zero i numbers weights = []
options_text (suc k) i numbers weights = line_text 70 (get_or numbers i 0 ∷ get_or weights i 0 ∷ []) ++ options_text k (i + 1) numbers weights

-- k U lines, from entry i on
unfoldable pub orderings_text : ℕ → ℕ → List ℕ → List ℕ → List ℕ → List ℕ
orderings_text zero i firsts seconds ordering_weights = []
orderings_text (suc k) i firsts seconds ordering_weights =
    line_text 85 (get_or firsts i 0 ∷ get_or seconds i 0 ∷ get_or ordering_weights i 0 ∷ []) ++ orderings_text k (i + 1) firsts seconds ordering_weights

-- the trailer points back: f is the line where the F section begins, u where the U section begins, t the trailer's own line
abbrev pub trailer_text : ℕ → ℕ → ℕ → List ℕ
trailer_text catalogue_lines option_count ordering_count = line_text 84 ((catalogue_lines + 1) ∷ (catalogue_lines + 1 + option_count) ∷ (catalogue_lines + 1 + option_count + ordering_count) ∷ [])

-- sections stand in this order
unfoldable pub text_of : Sheet → List ℕ
text_of s =
    catalogue_text s.catalogue_lines 0 s.letters s.befores s.afters
    ++ (options_text s.option_count 0 s.numbers s.weights
    ++ (orderings_text s.ordering_count 0 s.firsts s.seconds s.ordering_weights
    ++ trailer_text s.catalogue_lines s.option_count s.ordering_count))
