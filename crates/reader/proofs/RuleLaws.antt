-- Each line of an accepted record obeys the rules, as the record itself has it.
use Prim.Native.Nat.{ℕ, zero, suc, ◌+◌, ◌-◌, ◌≤◌, ◌<◌}
use mathlib.Core.Path.{◌≡◌, refl, sym, ap, subst}
use mathlib.Core.Logic.{inl, inr, ⊎_elim}
use mathlib.Core.Bool.{Bool, true, false, cond}
use mathlib.Core.List.{List}
use native.Mathlib.Omega.{arith}
use native.Mathlib.Nat.{eq-or-lt_of_le}
use lib.Dec.{eqb}
use lib.ListN.{take, drop, get_or}
use lib.Seq.{get_or-set_same, get_or-set_other, take-set-le}
use Rattle.shape.specs.Line.{line_length}
use Rattle.lines.specs.Lines.{read_lines, judged_line, after_judged, WithinLimits}
use Rattle.lines.specs.Stored.{stored_line, catalogue_letter}
use Rattle.shape.specs.Number.{numbers_of}
use Rattle.shape.specs.Scan.{section_of}
use Rattle.sheet.specs.Recorded.{CatalogueLetter, Lengths}
use Rattle.reader.proofs.Rule.{RowGood, Row, Rows}
use Rattle.shape.specs.declared.number.Numbers.{Numbers}
use Rattle.sheet.specs.declared.judged.Judged.{Judged}
use Rattle.sheet.specs.declared.judged.Judged.TheVariants.{Fine, Broken}
use Rattle.sheet.specs.declared.sheet.Sheet.{Sheet}
use Rattle.sheet.specs.declared.answer.Answer.TheVariants.{Accepted}
use Rattle.lines.specs.declared.result.Reading.{Reading}
use Rattle.shape.specs.declared.shape.Section.{Section}
use Rattle.shape.specs.declared.shape.Section.TheVariants.{Catalogue, Options, Orderings, Trailer}
use Rattle.lines.proofs.LineLaws.{in_catalogue, in_options, in_orderings}
use Rattle.sheet.proofs.JudgeLaws.{catalogue_obeys, option_obeys, ordering_obeys}
use Rattle.reader.proofs.StoredLaws.{stored_lengths, no_trailer}
use Rattle.lines.specs.Result.{accepted}
use Rattle.reader.proofs.AcceptLaws.{not_refused}

-- a line that was passed obeys the rules
pub good : (f u n : ℕ) (sec : Section) (h : Numbers) (s : Sheet) → section_of f u n ≡ sec → judged_line f u sec n h s ≡ Fine → RowGood f u sec n h.first h.second h.third s
good f u n Catalogue h s es e = catalogue_obeys h e
good f u n Options h s es e = option_obeys h (take (n - f) s.numbers) e
good f u n Orderings h s es e = ordering_obeys h (take (u - f) s.numbers) (take (n - u) s.firsts) (take (n - u) s.seconds) e
good f u n Trailer h s es e = no_trailer f u n es

letter_good : (c : ℕ) → CatalogueLetter (catalogue_letter c)
letter_good c = go (eqb c 88)
  where
    go : (t : Bool) → CatalogueLetter (cond t 88 67)
    go true = inr refl
    go false = inl refl

-- the line that is stored
here : (f u n c : ℕ) (sec : Section) (h : Numbers) (s : Sheet) → Lengths s → WithinLimits f u n → 1 ≤ n → section_of f u n ≡ sec
    → RowGood f u sec n h.first h.second h.third s → Row f u sec n (stored_line f u sec n c h s)
here f u n c Catalogue h s L R p e g =
    let i = in_catalogue f u n e in
    rw (get_or-set_same s.letters (n - 1) (catalogue_letter c) 0 (omega (arith, L.letters, R.few_catalogue)), get_or-set_same s.befores (n - 1) h.first 0 (omega (arith, L.befores, R.few_catalogue)), get_or-set_same s.afters (n - 1) h.second 0 (omega (arith, L.afters, R.few_catalogue))) (letter_good c, g)
here f u n c Options h s L R p e g =
    let i = in_options f u n e in
    rw (
      get_or-set_same s.numbers (n - f) h.first 0 (omega (arith, L.numbers, R.few_options)),
      get_or-set_same s.weights (n - f) h.second 0 (omega (arith, L.weights, R.few_options)),
      take-set-le (n - f) s.numbers (n - f) h.first (omega arith),
    ) g
here f u n c Orderings h s L R p e g =
    let i = in_orderings f u n e in
    rw (
      get_or-set_same s.firsts (n - u) h.first 0 (omega (arith, L.firsts, R.few_orderings)),
      get_or-set_same s.seconds (n - u) h.second 0 (omega (arith, L.seconds, R.few_orderings)),
      get_or-set_same s.ordering_weights (n - u) h.third 0 (omega (arith, L.ordering_weights, R.few_orderings)),
      take-set-le (n - u) s.firsts (n - u) h.first (omega arith),
      take-set-le (n - u) s.seconds (n - u) h.second (omega arith),
    ) g
here f u n c Trailer h s L R p e g = absurd (no_trailer f u n e)

-- the lines before it
there : (f u n c : ℕ) (sec : Section) (h : Numbers) (s : Sheet) (m : ℕ) (sm : Section) → 1 ≤ m → m < n → section_of f u n ≡ sec → section_of f u m ≡ sm
    → Row f u sm m s → Row f u sm m (stored_line f u sec n c h s)
there f u n c Catalogue h s m Catalogue p q e d g =
    rw (get_or-set_other s.letters (n - 1) (m - 1) (catalogue_letter c) 0 (omega arith), get_or-set_other s.befores (n - 1) (m - 1) h.first 0 (omega arith), get_or-set_other s.afters (n - 1) (m - 1) h.second 0 (omega arith)) g
there f u n c Catalogue h s m Options p q e d g = g
there f u n c Catalogue h s m Orderings p q e d g = g
there f u n c Catalogue h s m Trailer p q e d g = g
there f u n c Options h s m Catalogue p q e d g = g
there f u n c Options h s m Options p q e d g =
    let i = in_options f u m d in
    rw (
      get_or-set_other s.numbers (n - f) (m - f) h.first 0 (omega (arith, i.0)),
      get_or-set_other s.weights (n - f) (m - f) h.second 0 (omega (arith, i.0)),
      take-set-le (m - f) s.numbers (n - f) h.first (omega arith),
    ) g
there f u n c Options h s m Orderings p q e d g =
    let i = in_options f u n e in
    let j = in_orderings f u m d in
    absurd (omega (arith, i.1, j.1))
there f u n c Options h s m Trailer p q e d g = g
there f u n c Orderings h s m Catalogue p q e d g = g
there f u n c Orderings h s m Options p q e d g = g
there f u n c Orderings h s m Orderings p q e d g =
    let i = in_orderings f u m d in
    rw (
      get_or-set_other s.firsts (n - u) (m - u) h.first 0 (omega (arith, i.1)),
      get_or-set_other s.seconds (n - u) (m - u) h.second 0 (omega (arith, i.1)),
      get_or-set_other s.ordering_weights (n - u) (m - u) h.third 0 (omega (arith, i.1)),
      take-set-le (m - u) s.firsts (n - u) h.first (omega arith),
      take-set-le (m - u) s.seconds (n - u) h.second (omega arith),
    ) g
there f u n c Orderings h s m Trailer p q e d g = g
there f u n c Trailer h s m sm p q e d g = g

gone_on : (v : Judged) (n : ℕ) (o : Reading) (s : Sheet) → after_judged v n o ≡ accepted s → (v ≡ Fine) × (o ≡ accepted s)
gone_on Fine n o s e = (refl, e)
gone_on (Broken k c) n o s e = absurd (not_refused k _ s e)

-- the rules hold of every line of an accepted record
pub rows : (f u k n : ℕ) (l : List ℕ) (S s : Sheet) → Lengths S → f ≤ u → f ≤ 513 → u ≤ f + 32 → n + k ≤ u + 64 → 1 ≤ n
    → Rows f u n S → read_lines f u Accepted k n l S ≡ accepted s → Rows f u (n + k) s
unfolding read_lines
rows f u zero n l S s L a b c d one R e m p q =
    let z : S ≡ s = ap (λ (o : Reading). o.sheet) e in
    subst (λ (x : Sheet). Row f u (section_of f u m) m x) z (R m p (omega arith))
rows f u (suc k) n l S s L a b c d one R e m p q =
    let sec = section_of f u n in
    let h = numbers_of l in
    let c₀ = get_or l 0 0 in
    let S' = stored_line f u sec n c₀ h S in
    let j = gone_on (judged_line f u sec n h S) n _ s e in
    let room : WithinLimits f u n = record { ordered = a; few_catalogue = b; few_options = c; few_orderings = omega arith } in
    let new : Row f u sec n S' = here f u n c₀ sec h S L room one refl (good f u n sec h S refl j.0) in
    let R' : Rows f u (n + 1) S' = λ m p q.
    ⊎_elim (λ w. subst (λ (x : ℕ). Row f u (section_of f u x) x S') (sym w) new) (λ w. there f u n c₀ sec h S m (section_of f u m) p w refl refl (R m p w))
    (eq-or-lt_of_le (omega arith)) in
    rows f u k (n + 1) (drop (line_length l) l) S' s (stored_lengths f u sec n c₀ h S L) a b c (omega arith) (omega arith) R' j.1 m p (omega arith)
