-- The record with one line more.
use Rattle.std.specs.Prelude.{ℕ, ◌-◌, cond, eqb, set}
use Rattle.shape.specs.declared.number.Numbers.{Numbers}
use Rattle.shape.specs.declared.shape.Section.{Section}
use Rattle.shape.specs.declared.shape.Section.TheVariants.{Catalogue, Options, Orderings, Trailer}
use Rattle.sheet.specs.declared.sheet.Sheet.{Sheet}

abbrev pub with_catalogue_line : Sheet → ℕ → ℕ → ℕ → ℕ → Sheet
with_catalogue_line s i k a b = record {
  catalogue_lines = s.catalogue_lines;
  option_count = s.option_count;
  ordering_count = s.ordering_count;
  letters = set s.letters i k;
  befores = set s.befores i a;
  afters = set s.afters i b;
  numbers = s.numbers;
  weights = s.weights;
  firsts = s.firsts;
  seconds = s.seconds;
  ordering_weights = s.ordering_weights;
}

abbrev pub with_option : Sheet → ℕ → ℕ → ℕ → Sheet
with_option s i a w = record {
  catalogue_lines = s.catalogue_lines;
  option_count = s.option_count;
  ordering_count = s.ordering_count;
  letters = s.letters;
  befores = s.befores;
  afters = s.afters;
  numbers = set s.numbers i a;
  weights = set s.weights i w;
  firsts = s.firsts;
  seconds = s.seconds;
  ordering_weights = s.ordering_weights;
}

abbrev pub with_ordering : Sheet → ℕ → ℕ → ℕ → ℕ → Sheet
with_ordering s i a b w = record {
  catalogue_lines = s.catalogue_lines;
  option_count = s.option_count;
  ordering_count = s.ordering_count;
  letters = s.letters;
  befores = s.befores;
  afters = s.afters;
  numbers = s.numbers;
  weights = s.weights;
  firsts = set s.firsts i a;
  seconds = set s.seconds i b;
  ordering_weights = set s.ordering_weights i w;
}

-- of a well-shaped C or X line this is its first byte
abbrev pub catalogue_letter : ℕ → ℕ
catalogue_letter c = cond (eqb c 88) 88 67

-- the record with line n, whose first byte is c and whose numbers are h: slots follow the order of the F lines, and of the U lines
abbrev pub stored_line : ℕ → ℕ → Section → ℕ → ℕ → Numbers → Sheet → Sheet
stored_line f u Catalogue n c h s = with_catalogue_line s (n - 1) (catalogue_letter c) h.first h.second
stored_line f u Options n c h s = with_option s (n - f) h.first h.second
stored_line f u Orderings n c h s = with_ordering s (n - u) h.first h.second h.third
stored_line f u Trailer n c h s = s
