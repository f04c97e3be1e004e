-- The lines of a record, as the rules speak of them: the one place that reads its letters and counts.
use Rattle.std.specs.Prelude.{ℕ, cond, eqb}
use Rattle.rules.specs.Lines.{Lines, CatalogueLine, CatalogueLine.C, CatalogueLine.X, OptionLine, OrderingLine}
use Rattle.rules.specs.Slots.{list_of}
use Rattle.sheet.specs.Recorded.{letter, before, after, number, weight, first, second, ordering_weight}
use Rattle.sheet.specs.declared.sheet.Sheet.{Sheet}

abbrev pub catalogue_line : Sheet → ℕ → CatalogueLine
catalogue_line s i = cond (eqb (letter s i) 88) (X (before s i) (after s i)) (C (before s i) (after s i))

abbrev pub option_line : Sheet → ℕ → OptionLine
option_line s i = record { number = number s i; weight = weight s i }

abbrev pub ordering_line : Sheet → ℕ → OrderingLine
ordering_line s i = record { first = first s i; second = second s i; weight = ordering_weight s i }

unfoldable pub lines_of : Sheet → Lines
lines_of s = record {
  catalogue = list_of s.catalogue_lines (catalogue_line s);
  options = list_of s.option_count (option_line s);
  orderings = list_of s.ordering_count (ordering_line s);
}
