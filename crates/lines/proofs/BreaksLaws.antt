-- What the reader says of a line is the first rule that it breaks.
use Prim.Native.Nat.{ℕ, ◌-◌}
use mathlib.Core.List.{List}
use lib.ListN.{take}
use Rattle.shape.specs.Number.{numbers_of}
use Rattle.shape.specs.declared.shape.Section.{Section}
use Rattle.shape.specs.declared.shape.Section.TheVariants.{Catalogue, Options, Orderings, Trailer}
use Rattle.sheet.specs.Breaks.{FirstBroken, none}
use Rattle.sheet.specs.declared.sheet.Sheet.{Sheet}
use Rattle.sheet.proofs.BreaksLaws.{left_to_right, catalogue_first, option_first, ordering_first}
use Rattle.lines.specs.Breaks.{LineBreaks}
use Rattle.lines.specs.Lines.{judged_line}

pub judged_first : (f u : ℕ) (sec : Section) (n : ℕ) (l : List ℕ) (s : Sheet) → FirstBroken (LineBreaks f u sec n (numbers_of l) s) (judged_line f u sec n (numbers_of l) s)
judged_first f u Catalogue n l s = catalogue_first (numbers_of l) (left_to_right l)
judged_first f u Options n l s = option_first (numbers_of l) (left_to_right l) (take (n - f) s.numbers)
judged_first f u Orderings n l s =
    ordering_first (numbers_of l) (left_to_right l) (take (u - f) s.numbers) (take (n - u) s.firsts) (take (n - u) s.seconds)
judged_first f u Trailer n l s = none (λ k c b. b)
