-- A record that obeys the rule is given by its own text.
use Prim.Native.Nat.{ℕ, ◌+◌, ◌-◌, ◌≤◌}
use mathlib.Core.Path.{◌≡◌, refl, sym, ap, ◌∙◌}
use mathlib.Core.Bool.{true}
use mathlib.Core.List.{List, [], ◌∷◌, ◌++◌, append-nil}
use native.Mathlib.Omega.{arith}
use lib.ListN.{length, take, drop}
use lib.Seq.{drop-append_seam, take-append_seam}
use borrow.Author.Tests.{eq-eqb, le-ltb}
use Rattle.shape.specs.Grammar.{run, Line.line, Letter.is_T}
use Rattle.shape.specs.LineText.{line_text}
use Rattle.shape.specs.Number.{numbers_of}
use Rattle.shape.specs.Scan.{first_misshapen}
use Rattle.shape.specs.Trailer.{last_line, is_trailer, is_done}
use Rattle.shape.specs.declared.number.Numbers.{Numbers}
use Rattle.shape.specs.declared.scan.Scanned.TheVariants.{Clean}
use Rattle.shape.specs.declared.shape.Section.TheVariants.{Trailer}
use Rattle.shape.specs.declared.shape.State.TheVariants.{Start, Done}
use Rattle.shape.specs.declared.trailer.LastLine.{LastLine}
use Rattle.shape.proofs.ReadBackLaws.{three_back, three_shaped}
use Rattle.shape.proofs.GrammarLaws as grammar
use Rattle.sheet.specs.Sheet.{sized}
use Rattle.sheet.specs.Text.{text_of}
use Rattle.sheet.specs.declared.answer.Answer.TheVariants.{Accepted}
use Rattle.sheet.specs.declared.sheet.Sheet.{Sheet}
use Rattle.lines.specs.Lines.{read_lines}
use Rattle.reader.specs.Read.{read_sheet, read_trailed, read_body}
use Rattle.lines.specs.Result.{accepted}
use Rattle.reader.proofs.BodyLaws.{body_text, text_body}
use Rattle.reader.proofs.BodyScanLaws.{clean, last_line_found}
use Rattle.reader.proofs.ReadLaws.{read_on}
use Rattle.reader.proofs.RebuildLaws.{all_shaped, lines_back, sized_first}
use Rattle.reader.proofs.Rule.{Rule}
use Rattle.reader.proofs.SizeLaws.{short_text}

module _ (f u t : ℕ) (s : Sheet) (R : Rule f u t s) where
  fu : f ≤ u
  fu = omega (arith, R.f_is, R.u_is)

  ut : u ≤ t
  ut = omega (arith, R.u_is, R.t_is)

  f1 : 1 ≤ f
  f1 = omega (arith, R.f_is)

  abbrev body : List ℕ
  body = body_text f u (t - 1) 1 s

  abbrev tail_line : List ℕ
  tail_line = line_text 84 (f ∷ u ∷ t ∷ [])

  trailer_done : run Trailer Start tail_line ≡ Done
  trailer_done = grammar.accepted Trailer tail_line (line is_T (three_shaped f u t (omega (arith, R.f_is, R.few_catalogue)) (omega (arith, R.u_is, R.few_catalogue, R.few_options))
      (omega (arith, R.t_is, R.few_catalogue, R.few_options, R.few_orderings))))

  trailed_back : (text : List ℕ) (at n : ℕ) → text ≡ body ++ tail_line → at ≡ length body → n ≡ t → read_trailed text at n f u t ≡ accepted s
  unfolding read_trailed read_body
  trailed_back text at n et ea en =
      let tk : take at text ≡ body = ap (λ (i : ℕ). take i text) ea ∙ ap (λ (l : List ℕ). take (length body) l) et ∙ take-append_seam body tail_line in
      let sc : first_misshapen f u (take at text) ≡ Clean = ap (λ (l : List ℕ). first_misshapen f u l) tk ∙ clean f u s (t - 1) 1 (all_shaped f u t s R) in
      let fl : read_lines f u Accepted (t - 1) 1 text (sized (f - 1) (u - f) (t - u)) ≡ accepted s
      = ap (λ (l : List ℕ). read_lines f u Accepted (t - 1) 1 l (sized (f - 1) (u - f) (t - u))) et
      ∙ ap (λ (x : Sheet). read_lines f u Accepted (t - 1) 1 (body ++ tail_line) x) (sized_first f u t s R)
      ∙ lines_back f u t s R (t - 1) 1 tail_line (omega (arith, f1, fu, ut)) (omega arith) in
      rw (
        le-ltb f 1 f1,
        le-ltb u f fu,
        le-ltb t u ut,
        eq-eqb t n (sym en),
        le-ltb 512 (f - 1) (omega (arith, R.f_is, R.few_catalogue)),
        le-ltb 32 (u - f) (omega (arith, R.f_is, R.u_is, R.few_options)),
        le-ltb 64 (t - u) (omega (arith, R.u_is, R.t_is, R.few_orderings)),
        sc,
      ) fl

  same_trailed : (text : List ℕ) (at n : ℕ) {a a' b b' w w' : ℕ} → a ≡ a' → b ≡ b' → w ≡ w' → read_trailed text at n a b w ≡ read_trailed text at n a' b' w'
  same_trailed text at n ea eb ew = λ i. read_trailed text at n (ea i) (eb i) (ew i)

  -- the record's own text gives it
  pub rule_given : read_sheet (text_of s) ≡ accepted s
  rule_given =
      let text = text_of s in
      let et : text ≡ body ++ tail_line = text_body f u t s R.f_is R.u_is R.t_is in
      let e : LastLine = record { start = 0 + length body; lines = 0 + (t - 1) + 1 } in
      let ee : e ≡ last_line text = sym (ap last_line et ∙ last_line_found f u s tail_line Trailer trailer_done (t - 1) 1 0 0 0 (all_shaped f u t s R)) in
      let z₀ : 0 + length body ≡ length body = omega arith in
      let dr : drop e.start text ≡ tail_line = ap (λ (l : List ℕ). drop (0 + length body) l) et ∙ ap (λ (i : ℕ). drop i (body ++ tail_line)) z₀ ∙ drop-append_seam body tail_line in
      let tr : is_trailer (drop e.start text) ≡ true = ap is_trailer dr ∙ ap is_done trailer_done in
      let bk = three_back 84 f u t [] (omega (arith, R.f_is, R.few_catalogue)) (omega (arith, R.u_is, R.few_catalogue, R.few_options)) (omega (arith, R.t_is, R.few_catalogue, R.few_options, R.few_orderings)) in
      let h : Numbers = numbers_of (drop e.start text) in
      let hh : h ≡ numbers_of (tail_line ++ []) = ap (λ (l : List ℕ). numbers_of l) (dr ∙ sym (append-nil tail_line)) in
      let rt : read_trailed text e.start e.lines h.first h.second h.third ≡ accepted s
      = same_trailed text e.start e.lines (ap (λ (x : Numbers). x.first) hh ∙ bk.0) (ap (λ (x : Numbers). x.second) hh ∙ bk.1.0) (ap (λ (x : Numbers). x.third) hh ∙ bk.1.1)
      ∙ trailed_back text e.start e.lines et (omega arith) (omega (arith, f1, fu, ut)) in
      sym (read_on text e h (accepted s) (short_text f u t s R) ee tr refl (sym rt))
