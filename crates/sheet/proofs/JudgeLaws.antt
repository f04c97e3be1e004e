-- A line that the rules pass obeys each of them, and a line that obeys each of them is passed.
use Prim.Native.Nat.{ℕ, ◌≤◌}
use mathlib.Core.Path.{◌≡◌}
use mathlib.Core.Bool.{true, false}
use mathlib.Core.List.{List}
use native.Mathlib.Omega.{arith}
use Rattle.std.proofs.lemmas.Bool.Decides.{nat_tests}
use Rattle.shape.specs.declared.number.Numbers.{Numbers}
use Rattle.sheet.specs.Judge.{is_in, is_pair, no_option, judge_catalogue_line, judge_option, judge_ordering}
use Rattle.sheet.specs.Recorded.{OptionNumber}
use Rattle.sheet.specs.declared.judged.Judged.TheVariants.{Fine}

pub outside : (x : ℕ) → (OptionNumber x → ⊥) → no_option x ≡ true
outside x n = grind (arith, nat_tests)

-- what a passed line obeys: a C or X line, an F line, a U line
abbrev pub CatalogueObeys : Numbers → Type 0
CatalogueObeys h = OptionNumber h.first × (OptionNumber h.second × (h.first ≡ h.second → ⊥))

abbrev pub OptionObeys : Numbers → List ℕ → Type 0
OptionObeys h l = OptionNumber h.first × ((h.second ≤ 9999) × (is_in h.first l ≡ false))

abbrev pub OrderingObeys : Numbers → List ℕ → List ℕ → List ℕ → Type 0
OrderingObeys h l m n =
    OptionNumber h.first × (OptionNumber h.second × ((h.third ≤ 9999) × ((h.first ≡ h.second → ⊥)
    × ((is_in h.first l ≡ true) × ((is_in h.second l ≡ true) × (is_pair h.first h.second m n ≡ false))))))

module _ (h : Numbers) where
  pub catalogue_obeys : judge_catalogue_line h ≡ Fine → CatalogueObeys h
  catalogue_obeys e = grind (arith, nat_tests)

  pub option_obeys : (l : List ℕ) → judge_option h l ≡ Fine → OptionObeys h l
  option_obeys l e = grind (arith, nat_tests)

  pub ordering_obeys : (l m n : List ℕ) → judge_ordering h l m n ≡ Fine → OrderingObeys h l m n
  ordering_obeys l m n e = grind (arith, nat_tests)

  pub catalogue_passes : CatalogueObeys h → judge_catalogue_line h ≡ Fine
  catalogue_passes g = grind (arith, nat_tests)

  pub option_passes : (l : List ℕ) → OptionObeys h l → judge_option h l ≡ Fine
  option_passes l g = grind (arith, nat_tests)

  pub ordering_passes : (l m n : List ℕ) → OrderingObeys h l m n → judge_ordering h l m n ≡ Fine
  ordering_passes l m n g = grind (arith, nat_tests)
