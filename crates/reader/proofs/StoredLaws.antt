-- What a stored line changes in the record's text.
use Prim.Native.Nat.{ℕ, ◌-◌, ◌≤◌, ◌<◌}
use mathlib.Core.Path.{◌≡◌, refl}
use mathlib.Core.Bool.{Bool, true, false, cond}
use mathlib.Core.List.{List, [], ◌∷◌, ◌++◌}
use native.Mathlib.Omega.{arith}
use lib.Dec.{ltb}
use lib.ListN.{get_or, length-set, length-replicate}
use lib.Seq.{get_or-set_same, get_or-set_other}
use Rattle.lines.specs.Lines.{WithinLimits}
use Rattle.lines.specs.Stored.{stored_line, catalogue_letter}
use Rattle.shape.specs.Scan.{section_of}
use Rattle.sheet.specs.Sheet.{sized}
use Rattle.sheet.specs.Recorded.{Lengths}
use Rattle.shape.specs.LineText.{line_text}
use Rattle.reader.proofs.BodyLaws.{entry_line}
use Rattle.shape.specs.Grammar.{Line, Line.line, Letter.is_C, Letter.is_X, Letter.is_F, Letter.is_U, Letter.is_T}
use Rattle.shape.specs.Number.{numbers_of}
use Rattle.shape.specs.declared.number.Numbers.{Numbers}
use Rattle.sheet.specs.declared.sheet.Sheet.{Sheet}
use Rattle.shape.specs.declared.shape.Section.{Section}
use Rattle.shape.specs.declared.shape.Section.TheVariants.{Catalogue, Options, Orderings, Trailer}
use Rattle.lines.proofs.LineLaws.{in_catalogue, in_options, in_orderings}
use Rattle.shape.proofs.TextLaws.{two, three}

pub sized_lengths : (c o r : ℕ) → Lengths (sized c o r)
sized_lengths c o r = record {
  letters = length-replicate {A = ℕ} 512 0;
  befores = length-replicate {A = ℕ} 512 0;
  afters = length-replicate {A = ℕ} 512 0;
  numbers = length-replicate {A = ℕ} 32 0;
  weights = length-replicate {A = ℕ} 32 0;
  firsts = length-replicate {A = ℕ} 64 0;
  seconds = length-replicate {A = ℕ} 64 0;
  ordering_weights = length-replicate {A = ℕ} 64 0;
}

pub stored_lengths : (f u : ℕ) (sec : Section) (n c : ℕ) (h : Numbers) (s : Sheet) → Lengths s → Lengths (stored_line f u sec n c h s)
stored_lengths f u Catalogue n c h s L = record {
  letters = simp length-set L.letters;
  befores = simp length-set L.befores;
  afters = simp length-set L.afters;
  numbers = L.numbers;
  weights = L.weights;
  firsts = L.firsts;
  seconds = L.seconds;
  ordering_weights = L.ordering_weights;
}
stored_lengths f u Options n c h s L = record {
  letters = L.letters;
  befores = L.befores;
  afters = L.afters;
  numbers = simp length-set L.numbers;
  weights = simp length-set L.weights;
  firsts = L.firsts;
  seconds = L.seconds;
  ordering_weights = L.ordering_weights;
}
stored_lengths f u Orderings n c h s L = record {
  letters = L.letters;
  befores = L.befores;
  afters = L.afters;
  numbers = L.numbers;
  weights = L.weights;
  firsts = simp length-set L.firsts;
  seconds = simp length-set L.seconds;
  ordering_weights = simp length-set L.ordering_weights;
}
stored_lengths f u Trailer n c h s L = L

-- the text of a line with the first byte c and the numbers h
abbrev pub text_for : Section → ℕ → Numbers → List ℕ
text_for Catalogue c h = line_text (catalogue_letter c) (h.first ∷ h.second ∷ [])
text_for Options c h = line_text 70 (h.first ∷ h.second ∷ [])
text_for Orderings c h = line_text 85 (h.first ∷ h.second ∷ h.third ∷ [])
text_for Trailer c h = line_text 84 (h.first ∷ h.second ∷ h.third ∷ [])

pub line_as_text : (sec : Section) (x r : List ℕ) → Line sec x → x ≡ text_for sec (get_or (x ++ r) 0 0) (numbers_of (x ++ r))
line_as_text sec x r (line {l = l} is_C f) = two 67 l r f
line_as_text sec x r (line {l = l} is_X f) = two 88 l r f
line_as_text sec x r (line {l = l} is_F f) = two 70 l r f
line_as_text sec x r (line {l = l} is_U f) = three 85 l r f
line_as_text sec x r (line {l = l} is_T f) = three 84 l r f

pub no_trailer : (f u n : ℕ) → section_of f u n ≡ Trailer → ⊥
no_trailer f u n e = go (ltb n f) (ltb n u) e
  where
    go : (s t : Bool) → cond s Catalogue (cond t Options Orderings) ≡ Trailer → ⊥
    go true t p = cc
    go false true p = cc
    go false false p = cc

pub same_line : (f u n c : ℕ) (sec : Section) (h : Numbers) (s : Sheet) → Lengths s → WithinLimits f u n → 1 ≤ n → section_of f u n ≡ sec
    → entry_line f u sec n (stored_line f u sec n c h s) ≡ text_for sec c h
same_line f u n c Catalogue h s L R p e =
    let i = in_catalogue f u n e in
    rw (get_or-set_same s.letters (n - 1) (catalogue_letter c) 0 (omega (arith, L.letters, R.few_catalogue)), get_or-set_same s.befores (n - 1) h.first 0 (omega (arith, L.befores, R.few_catalogue)), get_or-set_same s.afters (n - 1) h.second 0 (omega (arith, L.afters, R.few_catalogue)))
same_line f u n c Options h s L R p e =
    let i = in_options f u n e in
    rw (get_or-set_same s.numbers (n - f) h.first 0 (omega (arith, L.numbers, R.few_options)), get_or-set_same s.weights (n - f) h.second 0 (omega (arith, L.weights, R.few_options)))
same_line f u n c Orderings h s L R p e =
    let i = in_orderings f u n e in
    rw (get_or-set_same s.firsts (n - u) h.first 0 (omega (arith, L.firsts, R.few_orderings)), get_or-set_same s.seconds (n - u) h.second 0 (omega (arith, L.seconds, R.few_orderings)), get_or-set_same s.ordering_weights (n - u) h.third 0 (omega (arith, L.ordering_weights, R.few_orderings)))
same_line f u n c Trailer h s L R p e = absurd (no_trailer f u n e)

pub other_line : (f u n c : ℕ) (sec : Section) (h : Numbers) (s : Sheet) (m : ℕ) (sm : Section) → 1 ≤ m → m < n → section_of f u n ≡ sec → section_of f u m ≡ sm
    → entry_line f u sm m (stored_line f u sec n c h s) ≡ entry_line f u sm m s
other_line f u n c Catalogue h s m Catalogue p q e d =
    rw (get_or-set_other s.letters (n - 1) (m - 1) (catalogue_letter c) 0 (omega arith), get_or-set_other s.befores (n - 1) (m - 1) h.first 0 (omega arith), get_or-set_other s.afters (n - 1) (m - 1) h.second 0 (omega arith))
other_line f u n c Catalogue h s m Options p q e d = refl
other_line f u n c Catalogue h s m Orderings p q e d = refl
other_line f u n c Catalogue h s m Trailer p q e d = refl
other_line f u n c Options h s m Catalogue p q e d = refl
other_line f u n c Options h s m Options p q e d =
    let i = in_options f u m d in
    rw (get_or-set_other s.numbers (n - f) (m - f) h.first 0 (omega (arith, i.0)), get_or-set_other s.weights (n - f) (m - f) h.second 0 (omega (arith, i.0)))
other_line f u n c Options h s m Orderings p q e d = refl
other_line f u n c Options h s m Trailer p q e d = refl
other_line f u n c Orderings h s m Catalogue p q e d = refl
other_line f u n c Orderings h s m Options p q e d = refl
other_line f u n c Orderings h s m Orderings p q e d =
    let i = in_orderings f u m d in
    rw (get_or-set_other s.firsts (n - u) (m - u) h.first 0 (omega (arith, i.1)), get_or-set_other s.seconds (n - u) (m - u) h.second 0 (omega (arith, i.1)), get_or-set_other s.ordering_weights (n - u) (m - u) h.third 0 (omega (arith, i.1)))
other_line f u n c Orderings h s m Trailer p q e d = refl
other_line f u n c Trailer h s m sm p q e d = refl
