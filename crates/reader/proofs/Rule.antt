-- The record's rule line by line, as the reader meets it: the F lines begin at line f, the U lines at line u, and the trailer is line t.
use Prim.Native.Nat.{ℕ, ◌+◌, ◌-◌, ◌≤◌, ◌<◌}
use mathlib.Core.Path.{◌≡◌}
use mathlib.Core.Bool.{true, false}
use lib.ListN.{take, get_or}
use Rattle.shape.specs.Scan.{section_of}
use Rattle.shape.specs.declared.shape.Section.{Section}
use Rattle.shape.specs.declared.shape.Section.TheVariants.{Catalogue, Options, Orderings, Trailer}
use Rattle.sheet.specs.Judge.{is_in, is_pair}
use Rattle.sheet.specs.Recorded.{OptionNumber, CatalogueLetter, Lengths}
use Rattle.sheet.specs.declared.sheet.Sheet.{Sheet}

-- the numbers a, b, w of line m obey the rules, after the lines before it
abbrev pub RowGood : ℕ → ℕ → Section → ℕ → ℕ → ℕ → ℕ → Sheet → Type 0
RowGood f u Catalogue m a b w s = OptionNumber a × (OptionNumber b × (a ≡ b → ⊥))
RowGood f u Options m a b w s = OptionNumber a × ((b ≤ 9999) × (is_in a (take (m - f) s.numbers) ≡ false))
RowGood f u Orderings m a b w s =
    OptionNumber a × (OptionNumber b × ((w ≤ 9999) × ((a ≡ b → ⊥) × ((is_in a (take (u - f) s.numbers) ≡ true) × ((is_in b (take (u - f) s.numbers) ≡ true)
    × (is_pair a b (take (m - u) s.firsts) (take (m - u) s.seconds) ≡ false))))))
RowGood f u Trailer m a b w s = ⊥

-- line m of the record
abbrev pub Row : ℕ → ℕ → Section → ℕ → Sheet → Type 0
Row f u Catalogue m s = CatalogueLetter (get_or s.letters (m - 1) 0) × RowGood f u Catalogue m (get_or s.befores (m - 1) 0) (get_or s.afters (m - 1) 0) 0 s
Row f u Options m s = RowGood f u Options m (get_or s.numbers (m - f) 0) (get_or s.weights (m - f) 0) 0 s
Row f u Orderings m s = RowGood f u Orderings m (get_or s.firsts (m - u) 0) (get_or s.seconds (m - u) 0) (get_or s.ordering_weights (m - u) 0) s
Row f u Trailer m s = ⊥

abbrev pub Rows : ℕ → ℕ → ℕ → Sheet → Type 0
Rows f u t s = (m : ℕ) → 1 ≤ m → m < t → Row f u (section_of f u m) m s

-- unused entries are zero
pub record UnusedLines (f u t : ℕ) (s : Sheet) : Type 0 where
  pub catalogue : (i : ℕ) → f - 1 ≤ i → (get_or s.letters i 0 ≡ 0) × ((get_or s.befores i 0 ≡ 0) × (get_or s.afters i 0 ≡ 0))
  pub options : (i : ℕ) → u - f ≤ i → (get_or s.numbers i 0 ≡ 0) × (get_or s.weights i 0 ≡ 0)
  pub orderings : (i : ℕ) → t - u ≤ i → (get_or s.firsts i 0 ≡ 0) × ((get_or s.seconds i 0 ≡ 0) × (get_or s.ordering_weights i 0 ≡ 0))

-- what every accepted record obeys; its F lines begin at line f and its U lines at line u, and the trailer is line t
pub record Rule (f u t : ℕ) (s : Sheet) : Type 0 where
  pub f_is : f ≡ s.catalogue_lines + 1
  pub u_is : u ≡ s.catalogue_lines + 1 + s.option_count
  pub t_is : t ≡ s.catalogue_lines + 1 + s.option_count + s.ordering_count
  pub few_catalogue : s.catalogue_lines ≤ 512
  pub few_options : s.option_count ≤ 32
  pub few_orderings : s.ordering_count ≤ 64
  pub lengths : Lengths s
  pub lines : Rows f u t s
  pub unused : UnusedLines f u t s
