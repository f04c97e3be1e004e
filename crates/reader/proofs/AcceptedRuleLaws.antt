-- An accepted record obeys the record's rule.
use Prim.Native.Nat.{ℕ, zero, suc, ◌+◌, ◌-◌, ◌≤◌, ◌<◌}
use mathlib.Core.Path.{◌≡◌, refl, sym, ap, subst, ◌∙◌}
use mathlib.Core.List.{List}
use native.Mathlib.Omega.{arith}
use lib.Dec.{ltb}
use lib.ListN.{length, take, drop, get_or, replicate}
use lib.Seq.{get_or-set_other}
use borrow.Author.Tests.{ltb-false}
use Rattle.shape.specs.Line.{line_length}
use Rattle.lines.specs.Lines.{read_lines, judged_line}
use Rattle.lines.specs.Stored.{stored_line, catalogue_letter}
use Rattle.shape.specs.Number.{numbers_of}
use Rattle.shape.specs.Scan.{section_of, first_misshapen}
use Rattle.sheet.specs.Sheet.{sized}
use Rattle.shape.specs.Trailer.{last_line, is_trailer}
use Rattle.reader.specs.Read.{read_sheet, read_trailed, bad_trailer}
use Rattle.sheet.specs.Recorded.{Lengths}
use Rattle.reader.proofs.Rule.{Rows, UnusedLines, Rule}
use Rattle.shape.specs.declared.number.Numbers.{Numbers}
use Rattle.sheet.specs.declared.sheet.Sheet.{Sheet}
use Rattle.sheet.specs.declared.answer.Answer.TheVariants.{Accepted}
use Rattle.lines.specs.declared.result.Reading.{Reading}
use Rattle.shape.specs.declared.shape.Section.{Section}
use Rattle.shape.specs.declared.shape.Section.TheVariants.{Catalogue, Options, Orderings, Trailer}
use Rattle.lines.proofs.LineLaws.{in_catalogue, in_options, in_orderings}
use Rattle.reader.proofs.ReadLaws.{good_trailer}
use Rattle.reader.proofs.StoredLaws.{sized_lengths, stored_lengths}
use Rattle.lines.specs.Result.{accepted}
use Rattle.reader.proofs.AcceptLaws.{went_on, same_counts, let_by, held, body_clean}
use Rattle.reader.proofs.RuleLaws.{rows}

stays : (f u t n c : ℕ) (sec : Section) (h : Numbers) (s : Sheet) → 1 ≤ n → n < t → section_of f u n ≡ sec → UnusedLines f u t s → UnusedLines f u t (stored_line f u sec n c h s)
stays f u t n c Catalogue h s p q e T =
    let x = in_catalogue f u n e in
    record {
      catalogue = λ i le. rw (get_or-set_other s.letters (n - 1) i (catalogue_letter c) 0 (omega arith), get_or-set_other s.befores (n - 1) i h.first 0 (omega arith), get_or-set_other s.afters (n - 1) i h.second 0 (omega arith)) (T.catalogue i le);
      options = T.options;
      orderings = T.orderings;
    }
stays f u t n c Options h s p q e T =
    let x = in_options f u n e in
    record {
      catalogue = T.catalogue;
      options = λ i le. rw (get_or-set_other s.numbers (n - f) i h.first 0 (omega (arith, x.0, x.1)), get_or-set_other s.weights (n - f) i h.second 0 (omega (arith, x.0, x.1))) (T.options i le);
      orderings = T.orderings;
    }
stays f u t n c Orderings h s p q e T =
    let x = in_orderings f u n e in
    record {
      catalogue = T.catalogue;
      options = T.options;
      orderings = λ i le. rw (get_or-set_other s.firsts (n - u) i h.first 0 (omega (arith, x.1)), get_or-set_other s.seconds (n - u) i h.second 0 (omega (arith, x.1)), get_or-set_other s.ordering_weights (n - u) i h.third 0 (omega (arith, x.1))) (T.orderings i le);
    }
stays f u t n c Trailer h s p q e T = T

-- counts and unused of the record that is filled
pub kept : (f u t k n : ℕ) (l : List ℕ) (S s : Sheet) → 1 ≤ n → n + k ≤ t → Lengths S × UnusedLines f u t S → read_lines f u Accepted k n l S ≡ accepted s
    → (Lengths s × UnusedLines f u t s) × ((S.catalogue_lines ≡ s.catalogue_lines) × ((S.option_count ≡ s.option_count) × (S.ordering_count ≡ s.ordering_count)))
unfolding read_lines
kept f u t zero n l S s p q T e =
    let z : S ≡ s = ap (λ (o : Reading). o.sheet) e in
    (subst (λ (x : Sheet). Lengths x × UnusedLines f u t x) z T, (ap (λ (x : Sheet). x.catalogue_lines) z, (ap (λ (x : Sheet). x.option_count) z, ap (λ (x : Sheet). x.ordering_count) z)))
kept f u t (suc k) n l S s p q T e =
    let sec = section_of f u n in
    let h = numbers_of l in
    let S' = stored_line f u sec n (get_or l 0 0) h S in
    let g = same_counts f u sec n (get_or l 0 0) h S in
    let r = kept f u t k (n + 1) (drop (line_length l) l) S' s (omega arith) (omega arith) (stored_lengths f u sec n (get_or l 0 0) h S T.0, stays f u t n (get_or l 0 0) sec h S p (omega arith) refl T.1) (went_on (judged_line f u sec n h S) n _ s e) in
    (r.0, (sym g.0 ∙ r.1.0, (sym g.1.0 ∙ r.1.1.0, sym g.1.1 ∙ r.1.1.1)))

zeros : (n i : ℕ) → ◌≡◌ {A = ℕ} (get_or (replicate n 0) i 0) 0
zeros zero i = refl
zeros (suc n) zero = refl
zeros (suc n) (suc i) = zeros n i

blank_tails : (f u t c o r : ℕ) → UnusedLines f u t (sized c o r)
blank_tails f u t c o r = record {
  catalogue = λ i le. (zeros 512 i, (zeros 512 i, zeros 512 i));
  options = λ i le. (zeros 32 i, zeros 32 i);
  orderings = λ i le. (zeros 64 i, (zeros 64 i, zeros 64 i));
}

trailed_rule : (text : List ℕ) (at n f u t : ℕ) (s : Sheet) → read_trailed text at n f u t ≡ accepted s → Rule f u t s
unfolding read_trailed
trailed_rule text at n f u t s e =
    let p₁ = let_by (bad_trailer f u t n) _ _ _ _ s e in
    let g = good_trailer f u t n p₁.0 in
    let p₂ = let_by (ltb 512 (f - 1)) _ _ _ _ s p₁.1 in
    let p₃ = let_by (ltb 32 (u - f)) _ _ _ _ s p₂.1 in
    let p₄ = let_by (ltb 64 (t - u)) _ _ _ _ s p₃.1 in
    let q₂ = ltb-false 512 (f - 1) p₂.0 in
    let q₃ = ltb-false 32 (u - f) p₃.0 in
    let q₄ = ltb-false 64 (t - u) p₄.0 in
    let S = sized (f - 1) (u - f) (t - u) in
    let b = body_clean f u text S s t (first_misshapen f u (take at text)) p₄.1 in
    let none : Rows f u 1 S = λ m x y. absurd (omega arith) in
    let z : 1 + (t - 1) ≡ t = omega (arith, g.0, g.1.0, g.1.1.0) in
    let r = rows f u (t - 1) 1 text S s (sized_lengths (f - 1) (u - f) (t - u)) g.1.0 (omega (arith, g.0)) (omega (arith, g.1.0))
    (omega (arith, g.0, g.1.0, g.1.1.0)) (omega arith) none b.1 in
    let k = kept f u t (t - 1) 1 text S s (omega arith) (omega (arith, z)) (sized_lengths (f - 1) (u - f) (t - u), blank_tails f u t (f - 1) (u - f) (t - u)) b.1 in
    record {
      f_is = omega (arith, k.1.0, g.0);
      u_is = omega (arith, k.1.0, k.1.1.0, g.0, g.1.0);
      t_is = omega (arith, k.1.0, k.1.1.0, k.1.1.1, g.0, g.1.0, g.1.1.0);
      few_catalogue = omega (arith, k.1.0);
      few_options = omega (arith, k.1.1.0);
      few_orderings = omega (arith, k.1.1.1);
      lengths = k.0.0;
      lines = subst (λ (x : ℕ). Rows f u x s) z r;
      unused = k.0.1;
    }

-- the record of an accepted sheet obeys the rule
pub accepted_rule : (text : List ℕ) (s : Sheet) → read_sheet text ≡ accepted s → (f : ℕ) × (u : ℕ) × (t : ℕ) × Rule f u t s
unfolding read_sheet
accepted_rule text s e =
    let at = (last_line text).start in
    let h = numbers_of (drop at text) in
    let p₁ = let_by (ltb 8192 (length text)) _ _ _ _ s e in
    let p₂ = held (is_trailer (drop at text)) _ _ _ _ s p₁.1 in
    (h.first, h.second, h.third, trailed_rule text at (last_line text).lines h.first h.second h.third s p₂.1)
