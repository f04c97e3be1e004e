-- The text of a record is its three sections and its trailer.
use Prim.Native.Nat.{ℕ, ◌+◌}
use mathlib.Core.Path.{◌≡◌, refl, ap, ◌∙◌}
use mathlib.Core.List.{List, ◌++◌}
use native.Mathlib.Omega.{arith}
use lib.ListN.{length, length-append}
use Rattle.shape.specs.LineText.{decimal}
use Rattle.sheet.specs.Text.{catalogue_text, options_text, orderings_text, trailer_text, text_of}
use Rattle.sheet.specs.declared.sheet.Sheet.{Sheet}
use Rattle.shape.proofs.LengthLaws.{three_length}

module _ (s : Sheet) where
  abbrev pub catalogue_of : List ℕ
  catalogue_of = catalogue_text s.catalogue_lines 0 s.letters s.befores s.afters

  abbrev pub options_of : List ℕ
  options_of = options_text s.option_count 0 s.numbers s.weights

  abbrev pub orderings_of : List ℕ
  orderings_of = orderings_text s.ordering_count 0 s.firsts s.seconds s.ordering_weights

  abbrev pub trailer_of : List ℕ
  trailer_of = trailer_text s.catalogue_lines s.option_count s.ordering_count

  pub text_parts : text_of s ≡ catalogue_of ++ (options_of ++ (orderings_of ++ trailer_of))
  unfolding text_of
  text_parts = refl

  pub text_length : length (text_of s) ≡ length catalogue_of + length options_of + length orderings_of + length trailer_of
  text_length =
      ap length text_parts ∙ length-append catalogue_of _ ∙ ap (λ (k : ℕ). length catalogue_of + k) (length-append options_of _ ∙ ap (λ (k : ℕ). length options_of + k) (length-append orderings_of trailer_of))
      ∙ (omega arith)

  pub trailer_length : length trailer_of ≡ 5 + length (decimal (s.catalogue_lines + 1)) + length (decimal (s.catalogue_lines + 1 + s.option_count)) + length (decimal (s.catalogue_lines + 1 + s.option_count + s.ordering_count))
  trailer_length = three_length 84 (s.catalogue_lines + 1) (s.catalogue_lines + 1 + s.option_count) (s.catalogue_lines + 1 + s.option_count + s.ordering_count)
