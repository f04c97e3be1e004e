-- The rules that a well-shaped line breaks, after the lines before it.
use Rattle.std.specs.Prelude.{ℕ, ◌-◌, take}
use Rattle.shape.specs.declared.number.Numbers.{Numbers}
use Rattle.shape.specs.declared.shape.Section.{Section}
use Rattle.shape.specs.declared.shape.Section.TheVariants.{Catalogue, Options, Orderings, Trailer}
use Rattle.sheet.specs.Breaks.{CatalogueBreaks, OptionBreaks, OrderingBreaks}
use Rattle.sheet.specs.declared.answer.Refusal.{Refusal}
use Rattle.sheet.specs.declared.sheet.Sheet.{Sheet}

-- line n, with the numbers h, where the F lines begin at line f and the U lines at line u, and s is the record of the lines before
abbrev pub LineBreaks : ℕ → ℕ → Section → ℕ → Numbers → Sheet → Refusal → ℕ → Type 0
LineBreaks f u Catalogue n h s why c = CatalogueBreaks h why c
LineBreaks f u Options n h s why c = OptionBreaks h (take (n - f) s.numbers) why c
LineBreaks f u Orderings n h s why c = OrderingBreaks h (take (u - f) s.numbers) (take (n - u) s.firsts) (take (n - u) s.seconds) why c
LineBreaks f u Trailer n h s why c = ⊥
