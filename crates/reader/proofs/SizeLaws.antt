-- The text of a record that obeys the rule is short enough.
use Prim.Native.Nat.{ℕ, zero, suc, ◌+◌, ◌-◌, ◌*◌, ◌≤◌, ◌<◌}
use mathlib.Core.Path.{◌≡◌, subst}
use mathlib.Core.List.{[], ◌∷◌}
use native.Mathlib.Omega.{arith}
use lib.ListN.{length, get_or, length-append}
use borrow.Author.Tests.{lt-ltb, le-ltb}
use Rattle.reader.proofs.Rule.{Row, Rule}
use Rattle.shape.specs.Scan.{section_of}
use Rattle.shape.specs.LineText.{line_text}
use Rattle.sheet.specs.Text.{catalogue_text, options_text, orderings_text, text_of}
use Rattle.sheet.specs.declared.sheet.Sheet.{Sheet}
use Rattle.shape.specs.declared.shape.Section.{Section}
use Rattle.shape.specs.declared.shape.Section.TheVariants.{Catalogue, Options, Orderings}
use Rattle.shape.proofs.LengthLaws.{three_digits, four_digits, five_digits, two_length, three_length}
use Rattle.sheet.proofs.PartLaws.{text_length, trailer_length}

-- the used entries of a record that obeys the rule, by section
module _ (f u t : ℕ) (s : Sheet) (R : Rule f u t s) where
  at_row : (n : ℕ) (sec : Section) → section_of f u n ≡ sec → 1 ≤ n → n < t → Row f u sec n s
  at_row n sec e p q = subst (λ (x : Section). Row f u x n s) e (R.lines n p q)

  pub catalogue_row : (i : ℕ) → i < s.catalogue_lines → Row f u Catalogue (i + 1) s
  catalogue_row i h = at_row (i + 1) Catalogue (rw (lt-ltb (i + 1) f (omega (arith, R.f_is)))) (omega arith) (omega (arith, R.t_is))

  pub option_row : (i : ℕ) → i < s.option_count → Row f u Options (f + i) s
  option_row i h = at_row (f + i) Options (rw (le-ltb (f + i) f (omega arith), lt-ltb (f + i) u (omega (arith, R.f_is, R.u_is)))) (omega (arith, R.f_is)) (omega (arith, R.f_is, R.t_is))

  pub ordering_row : (i : ℕ) → i < s.ordering_count → Row f u Orderings (u + i) s
  ordering_row i h =
      at_row (u + i) Orderings (rw (le-ltb (u + i) f (omega (arith, R.f_is, R.u_is)), le-ltb (u + i) u (omega arith))) (omega (arith, R.u_is)) (omega (arith, R.u_is, R.t_is))

  catalogue_size : (k i : ℕ) → i + k ≤ s.catalogue_lines → length (catalogue_text k i s.letters s.befores s.afters) ≤ 10 * k
  unfolding catalogue_text
  catalogue_size zero i h = omega arith
  catalogue_size (suc k) i h =
      let a = get_or s.befores i 0 in
      let b = get_or s.afters i 0 in
      let z : i + 1 - 1 ≡ i = omega arith in
      let g = rw z at (catalogue_row i (omega arith)) in
      let l = length-append (line_text (get_or s.letters i 0) (a ∷ b ∷ [])) (catalogue_text k (i + 1) s.letters s.befores s.afters) in
      omega (arith, l, two_length (get_or s.letters i 0) a b, three_digits a (omega (arith, g.1.0.1)), three_digits b (omega (arith, g.1.1.0.1)), catalogue_size k (i + 1) (omega arith))

  options_size : (k i : ℕ) → i + k ≤ s.option_count → length (options_text k i s.numbers s.weights) ≤ 11 * k
  unfolding options_text
  options_size zero i h = omega arith
  options_size (suc k) i h =
      let a = get_or s.numbers i 0 in
      let b = get_or s.weights i 0 in
      let z : f + i - f ≡ i = omega arith in
      let g = rw z at (option_row i (omega arith)) in
      let l = length-append (line_text 70 (a ∷ b ∷ [])) (options_text k (i + 1) s.numbers s.weights) in
      omega (arith, l, two_length 70 a b, three_digits a (omega (arith, g.0.1)), four_digits b (omega (arith, g.1.0)), options_size k (i + 1) (omega arith))

  orderings_size : (k i : ℕ) → i + k ≤ s.ordering_count → length (orderings_text k i s.firsts s.seconds s.ordering_weights) ≤ 15 * k
  unfolding orderings_text
  orderings_size zero i h = omega arith
  orderings_size (suc k) i h =
      let a = get_or s.firsts i 0 in
      let b = get_or s.seconds i 0 in
      let w = get_or s.ordering_weights i 0 in
      let z : u + i - u ≡ i = omega arith in
      let g = rw z at (ordering_row i (omega arith)) in
      let l = length-append (line_text 85 (a ∷ b ∷ w ∷ [])) (orderings_text k (i + 1) s.firsts s.seconds s.ordering_weights) in
      omega (arith, l, three_length 85 a b w, three_digits a (omega (arith, g.0.1)), three_digits b (omega (arith, g.1.0.1)), four_digits w (omega (arith, g.1.1.0)), orderings_size k (i + 1) (omega arith))

  pub short_text : length (text_of s) ≤ 8192
  short_text =
      omega (
        arith,
        text_length s,
        trailer_length s,
        five_digits (s.catalogue_lines + 1) (omega (arith, R.few_catalogue, R.few_options, R.few_orderings)),
        five_digits (s.catalogue_lines + 1 + s.option_count) (omega (arith, R.few_catalogue, R.few_options, R.few_orderings)),
        five_digits (s.catalogue_lines + 1 + s.option_count + s.ordering_count) (omega (arith, R.few_catalogue, R.few_options, R.few_orderings)),
        catalogue_size s.catalogue_lines 0 (omega arith),
        options_size s.option_count 0 (omega arith),
        orderings_size s.ordering_count 0 (omega arith),
        R.few_catalogue,
        R.few_options,
        R.few_orderings,
      )
