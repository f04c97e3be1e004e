-- The text of a record, line by line: line n of a record whose F lines begin at line f and whose U lines begin at line u.
use Prim.Native.Nat.{ℕ, zero, suc, ◌+◌, ◌-◌, ◌≤◌}
use mathlib.Core.Path.{◌≡◌, refl, sym, ap, ◌∙◌}
use mathlib.Core.List.{List, [], ◌∷◌, ◌++◌, append_assoc}
use native.Mathlib.Omega.{arith}
use lib.ListN.{get_or}
use borrow.Author.Tests.{lt-ltb, le-ltb}
use Rattle.shape.specs.Scan.{section_of}
use Rattle.shape.specs.LineText.{line_text}
use Rattle.sheet.specs.Text.{catalogue_text, options_text, orderings_text, text_of}
use Rattle.sheet.specs.declared.sheet.Sheet.{Sheet}
use Rattle.shape.specs.declared.shape.Section.{Section}
use Rattle.shape.specs.declared.shape.Section.TheVariants.{Catalogue, Options, Orderings, Trailer}

abbrev pub entry_line : ℕ → ℕ → Section → ℕ → Sheet → List ℕ
entry_line f u Catalogue n s = line_text (get_or s.letters (n - 1) 0) (get_or s.befores (n - 1) 0 ∷ get_or s.afters (n - 1) 0 ∷ [])
entry_line f u Options n s = line_text 70 (get_or s.numbers (n - f) 0 ∷ get_or s.weights (n - f) 0 ∷ [])
entry_line f u Orderings n s = line_text 85 (get_or s.firsts (n - u) 0 ∷ get_or s.seconds (n - u) 0 ∷ get_or s.ordering_weights (n - u) 0 ∷ [])
entry_line f u Trailer n s = []

abbrev pub line_of : ℕ → ℕ → ℕ → Sheet → List ℕ
line_of f u n s = entry_line f u (section_of f u n) n s

-- k lines from line n on
unfoldable pub body_text : ℕ → ℕ → ℕ → ℕ → Sheet → List ℕ
body_text f u zero n s = []
body_text f u (suc k) n s = line_of f u n s ++ body_text f u k (n + 1) s

module _ (f u : ℕ) (s : Sheet) where
  body_split : (a b n : ℕ) → body_text f u (a + b) n s ≡ body_text f u a n s ++ body_text f u b (n + a) s
  unfolding body_text
  body_split zero b n =
      let p : 0 + b ≡ b = omega arith in
      let q : n + 0 ≡ n = omega arith in
      rw (p, q)
  body_split (suc a) b n =
      let p : suc a + b ≡ suc (a + b) = omega arith in
      let q : n + suc a ≡ n + 1 + a = omega arith in
      rw (p, q) (ap (λ (x : List ℕ). line_of f u n s ++ x) (body_split a b (n + 1)) ∙ sym (append_assoc (line_of f u n s) (body_text f u a (n + 1) s) _))

  body_catalogue : (k n : ℕ) → 1 ≤ n → n + k ≤ f → body_text f u k n s ≡ catalogue_text k (n - 1) s.letters s.befores s.afters
  unfolding body_text catalogue_text
  body_catalogue zero n p h = refl
  body_catalogue (suc k) n p h =
      let e : n + 1 - 1 ≡ n - 1 + 1 = omega arith in
      rw (lt-ltb n f (omega arith), body_catalogue k (n + 1) (omega arith) (omega arith), e)

  body_options : (k n : ℕ) → f ≤ n → n + k ≤ u → body_text f u k n s ≡ options_text k (n - f) s.numbers s.weights
  unfolding body_text options_text
  body_options zero n p h = refl
  body_options (suc k) n p h =
      let e : n + 1 - f ≡ n - f + 1 = omega arith in
      rw (le-ltb n f p, lt-ltb n u (omega arith), body_options k (n + 1) (omega arith) (omega arith), e)

  body_orderings : (k n : ℕ) → f ≤ n → u ≤ n → body_text f u k n s ≡ orderings_text k (n - u) s.firsts s.seconds s.ordering_weights
  unfolding body_text orderings_text
  body_orderings zero n p h = refl
  body_orderings (suc k) n p h =
      let e : n + 1 - u ≡ n - u + 1 = omega arith in
      rw (le-ltb n f p, le-ltb n u h, body_orderings k (n + 1) (omega arith) (omega arith), e)

-- the sections one after the other are the lines one after the other
pub text_body : (f u t : ℕ) (s : Sheet) → f ≡ s.catalogue_lines + 1 → u ≡ s.catalogue_lines + 1 + s.option_count → t ≡ s.catalogue_lines + 1 + s.option_count + s.ordering_count
    → text_of s ≡ body_text f u (t - 1) 1 s ++ line_text 84 (f ∷ u ∷ t ∷ [])
unfolding text_of
text_body f u t s ef eu et =
    let k : t - 1 ≡ s.catalogue_lines + (s.option_count + s.ordering_count) = omega arith in
    let n₁ : 1 + s.catalogue_lines ≡ f = omega arith in
    let n₂ : f + s.option_count ≡ u = omega arith in
    let z₀ : f - f ≡ 0 = omega arith in
    let z₁ : u - u ≡ 0 = omega arith in
    let c = body_catalogue f u s s.catalogue_lines 1 (omega arith) (omega arith) in
    let o : body_text f u s.option_count f s ≡ options_text s.option_count 0 s.numbers s.weights = rw z₀ at (body_options f u s s.option_count f (omega arith) (omega arith)) in
    let r : body_text f u s.ordering_count u s ≡ orderings_text s.ordering_count 0 s.firsts s.seconds s.ordering_weights = rw z₁ at (body_orderings f u s s.ordering_count u (omega arith) (omega arith)) in
    let d : body_text f u (t - 1) 1 s ≡ catalogue_text s.catalogue_lines 0 s.letters s.befores s.afters ++ (options_text s.option_count 0 s.numbers s.weights ++ orderings_text s.ordering_count 0 s.firsts s.seconds s.ordering_weights)
    = rw (k, body_split f u s s.catalogue_lines (s.option_count + s.ordering_count) 1, n₁, body_split f u s s.option_count s.ordering_count f, n₂, c, o, r) in
    rw (d, et, eu, ef) (sym (simp append_assoc))
