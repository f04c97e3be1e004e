-- A section's text, line by line, and how many bytes it has.
use Prim.Native.Nat.{ℕ, zero, suc, ◌+◌, ◌-◌, ◌≤◌, ◌<◌}
use mathlib.Core.Path.{◌≡◌, refl, sym, ap, ◌∙◌}
use mathlib.Core.List.{List, [], ◌∷◌, ◌++◌}
use native.Mathlib.Omega.{arith}
use lib.ListN.{length, get_or, length-append}
use Rattle.shape.specs.LineText.{decimal, line_text}
use Rattle.sheet.specs.Text.{catalogue_text, options_text, orderings_text}
use Rattle.shape.proofs.LengthLaws.{two_length, three_length}

pub first_length : (x y l : List ℕ) → l ≡ x ++ y → length l ≡ length x + length y
first_length x y l e = ap length e ∙ length-append x y

module _ (n i : ℕ) (letters befores afters : List ℕ) where
  pub catalogue_first : i < n → catalogue_text (n - i) i letters befores afters
      ≡ line_text (get_or letters i 0) (get_or befores i 0 ∷ get_or afters i 0 ∷ []) ++ catalogue_text (n - (i + 1)) (i + 1) letters befores afters
  unfolding catalogue_text
  catalogue_first h =
      let e : n - i ≡ suc (n - (i + 1)) = omega arith in
      rw e

  pub catalogue_none : n ≤ i → catalogue_text (n - i) i letters befores afters ≡ []
  unfolding catalogue_text
  catalogue_none h =
      let e : n - i ≡ 0 = omega arith in
      rw e

  pub catalogue_length : i < n → length (catalogue_text (n - i) i letters befores afters)
      ≡ 4 + length (decimal (get_or befores i 0)) + length (decimal (get_or afters i 0)) + length (catalogue_text (n - (i + 1)) (i + 1) letters befores afters)
  catalogue_length h =
      let l = first_length (line_text (get_or letters i 0) (get_or befores i 0 ∷ get_or afters i 0 ∷ [])) (catalogue_text (n - (i + 1)) (i + 1) letters befores afters) (catalogue_text (n - i) i letters befores afters) (catalogue_first h) in
      omega (arith, l, two_length (get_or letters i 0) (get_or befores i 0) (get_or afters i 0))

module _ (n i : ℕ) (numbers weights : List ℕ) where
  pub options_first : i < n → options_text (n - i) i numbers weights ≡ line_text 70 (get_or numbers i 0 ∷ get_or weights i 0 ∷ []) ++ options_text (n - (i + 1)) (i + 1) numbers weights
  unfolding options_text
  options_first h =
      let e : n - i ≡ suc (n - (i + 1)) = omega arith in
      rw e

  pub options_none : n ≤ i → options_text (n - i) i numbers weights ≡ []
  unfolding options_text
  options_none h =
      let e : n - i ≡ 0 = omega arith in
      rw e

  pub options_length : i < n → length (options_text (n - i) i numbers weights)
      ≡ 4 + length (decimal (get_or numbers i 0)) + length (decimal (get_or weights i 0)) + length (options_text (n - (i + 1)) (i + 1) numbers weights)
  options_length h =
      let l = first_length (line_text 70 (get_or numbers i 0 ∷ get_or weights i 0 ∷ [])) (options_text (n - (i + 1)) (i + 1) numbers weights) (options_text (n - i) i numbers weights) (options_first h) in
      omega (arith, l, two_length 70 (get_or numbers i 0) (get_or weights i 0))

module _ (n i : ℕ) (firsts seconds ordering_weights : List ℕ) where
  pub orderings_first : i < n → orderings_text (n - i) i firsts seconds ordering_weights
      ≡ line_text 85 (get_or firsts i 0 ∷ get_or seconds i 0 ∷ get_or ordering_weights i 0 ∷ []) ++ orderings_text (n - (i + 1)) (i + 1) firsts seconds ordering_weights
  unfolding orderings_text
  orderings_first h =
      let e : n - i ≡ suc (n - (i + 1)) = omega arith in
      rw e

  pub orderings_none : n ≤ i → orderings_text (n - i) i firsts seconds ordering_weights ≡ []
  unfolding orderings_text
  orderings_none h =
      let e : n - i ≡ 0 = omega arith in
      rw e

  pub orderings_length : i < n → length (orderings_text (n - i) i firsts seconds ordering_weights)
      ≡ 5 + length (decimal (get_or firsts i 0)) + length (decimal (get_or seconds i 0)) + length (decimal (get_or ordering_weights i 0)) + length (orderings_text (n - (i + 1)) (i + 1) firsts seconds ordering_weights)
  orderings_length h =
      let l = first_length (line_text 85 (get_or firsts i 0 ∷ get_or seconds i 0 ∷ get_or ordering_weights i 0 ∷ [])) (orderings_text (n - (i + 1)) (i + 1) firsts seconds ordering_weights) (orderings_text (n - i) i firsts seconds ordering_weights) (orderings_first h) in
      omega (arith, l, three_length 85 (get_or firsts i 0) (get_or seconds i 0) (get_or ordering_weights i 0))

-- letters have one byte, so the length of the catalogue does not depend on the letters
pub any_letter : (k i : ℕ) (letters letters' befores afters : List ℕ) → length (catalogue_text k i letters befores afters) ≡ length (catalogue_text k i letters' befores afters)
unfolding catalogue_text
any_letter zero i letters letters' befores afters = refl
any_letter (suc k) i letters letters' befores afters =
    let a = length-append (line_text (get_or letters i 0) (get_or befores i 0 ∷ get_or afters i 0 ∷ [])) (catalogue_text k (i + 1) letters befores afters) in
    let b = length-append (line_text (get_or letters' i 0) (get_or befores i 0 ∷ get_or afters i 0 ∷ [])) (catalogue_text k (i + 1) letters' befores afters) in
    a ∙ ap (λ (x : ℕ). length (line_text 0 (get_or befores i 0 ∷ get_or afters i 0 ∷ [])) + x) (any_letter k (i + 1) letters letters' befores afters) ∙ sym b
