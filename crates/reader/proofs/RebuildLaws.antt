-- The text of a record that obeys the rule, line by line, gives the record back.
use Prim.Native.Nat.{ℕ, zero, suc, ◌+◌, ◌-◌, ◌≤◌, ◌<◌}
use mathlib.Core.Logic.{⊎_elim}
use mathlib.Core.Path.{◌≡◌, refl, sym, ap, subst, ◌∙◌}
use mathlib.Core.List.{List, [], ◌∷◌, ◌++◌, append_assoc}
use native.Mathlib.Omega.{arith}
use native.Mathlib.Nat.{le_refl}
use lib.ListN.{length, take, get_or, set, replicate}
use Rattle.lines.specs.Lines.{read_lines, judged_line, after_judged}
use Rattle.lines.specs.Result.{accepted}
use Rattle.lines.specs.Stored.{stored_line, catalogue_letter}
use Rattle.sheet.specs.Judge.{is_in, is_pair}
use Rattle.sheet.proofs.JudgeLaws.{catalogue_passes, option_passes, ordering_passes}
use Rattle.shape.specs.Grammar.{run, Line.line, Letter, Letter.is_C, Letter.is_X, Letter.is_F, Letter.is_U}
use Rattle.shape.specs.Number.{numbers_of}
use Rattle.sheet.specs.Recorded.{CatalogueLetter}
use Rattle.reader.proofs.Rule.{RowGood, Row, UnusedLines, Rule}
use Rattle.shape.specs.Scan.{section_of}
use Rattle.sheet.specs.Sheet.{sized}
use Rattle.shape.specs.LineText.{line_text}
use Rattle.shape.specs.declared.number.Numbers.{Numbers}
use Rattle.sheet.specs.declared.judged.Judged.{Judged}
use Rattle.sheet.specs.declared.judged.Judged.TheVariants.{Fine}
use Rattle.sheet.specs.declared.sheet.Sheet.{Sheet}
use Rattle.sheet.specs.declared.answer.Answer.TheVariants.{Accepted}
use Rattle.shape.specs.declared.shape.Section.{Section}
use Rattle.shape.specs.declared.shape.Section.TheVariants.{Catalogue, Options, Orderings, Trailer}
use Rattle.shape.specs.declared.shape.State.TheVariants.{Start, Done}
use Rattle.shape.proofs.ReadBackLaws.{two_back, three_back, two_shaped, three_shaped}
use Rattle.reader.proofs.BodyLaws.{entry_line, line_of, body_text}
use Rattle.reader.proofs.BodyScanLaws.{Shaped}
use Rattle.lines.proofs.LineLaws.{in_catalogue, in_options, in_orderings}
use Rattle.shape.proofs.GrammarLaws as grammar
use Rattle.reader.proofs.TrimLaws.{trim, trim_none, trim_more, trim_all, trim_take}
use Rattle.reader.proofs.VerdictLaws.{one_line}

-- numbers that obey the rules pass the judgement
pub fine_row : (f u n : ℕ) (sec : Section) (h : Numbers) (s : Sheet) → RowGood f u sec n h.first h.second h.third s → judged_line f u sec n h s ≡ Fine
fine_row f u n Catalogue h s g = catalogue_passes h g
fine_row f u n Options h s g = option_passes h (take (n - f) s.numbers) g
fine_row f u n Orderings h s g = ordering_passes h (take (u - f) s.numbers) (take (n - u) s.firsts) (take (n - u) s.seconds) g
fine_row f u n Trailer h s g = refl

-- the record as it stands before line n: the entries of the lines before it, and zeros
abbrev pub upto : ℕ → ℕ → ℕ → Sheet → Sheet
upto f u n s = record {
  catalogue_lines = s.catalogue_lines;
  option_count = s.option_count;
  ordering_count = s.ordering_count;
  letters = trim (n - 1) s.letters;
  befores = trim (n - 1) s.befores;
  afters = trim (n - 1) s.afters;
  numbers = trim (n - f) s.numbers;
  weights = trim (n - f) s.weights;
  firsts = trim (n - u) s.firsts;
  seconds = trim (n - u) s.seconds;
  ordering_weights = trim (n - u) s.ordering_weights;
}

module _ {c o r : ℕ} {k k' l l' m m' i i' w w' p p' q q' z z' : List ℕ} where
  same_sheet : k ≡ k' → l ≡ l' → m ≡ m' → i ≡ i' → w ≡ w' → p ≡ p' → q ≡ q' → z ≡ z'
      → ◌≡◌ {A = Sheet} (record { catalogue_lines = c; option_count = o; ordering_count = r; letters = k; befores = l; afters = m; numbers = i; weights = w; firsts = p; seconds = q; ordering_weights = z })
      (record { catalogue_lines = c; option_count = o; ordering_count = r; letters = k'; befores = l'; afters = m'; numbers = i'; weights = w'; firsts = p'; seconds = q'; ordering_weights = z' })
  same_sheet ek el em ei ew ep eq ez = cc

-- one entry more
put_entry : (k n : ℕ) (l : List ℕ) (x : ℕ) → n ≡ suc k → x ≡ get_or l k 0 → set (trim k l) k x ≡ trim n l
put_entry k n l x e d = rw (d, e) (trim_more k l)

-- a section that has not begun
before_trim : (n v : ℕ) (l : List ℕ) → n < v → trim (n - v) l ≡ trim (n + 1 - v) l
before_trim n v l h =
    let e : n - v ≡ n + 1 - v = omega arith in
    ap (λ (i : ℕ). trim i l) e

-- a list whose entries from k on are zero does not change any more
full_trim : (k n z : ℕ) (l : List ℕ) → ((i : ℕ) → z ≤ i → get_or l i 0 ≡ 0) → z ≤ k → z ≤ n → trim k l ≡ trim n l
full_trim k n z l h p q = trim_all k l (λ i g. h i (omega arith)) ∙ sym (trim_all n l (λ i g. h i (omega arith)))

less_less : (a b c : ℕ) → a ≤ b → a - c ≤ b - c
less_less a b c h = omega arith

one_more : (n v : ℕ) → v ≤ n → n + 1 - v ≡ suc (n - v)
one_more n v h = omega arith

letter_back : (k : ℕ) → CatalogueLetter k → catalogue_letter k ≡ k
letter_back k g = ⊎_elim (λ e. rw e) (λ e. rw e) g

a_letter : (k : ℕ) → CatalogueLetter k → Letter Catalogue k
a_letter k g = ⊎_elim (λ e. subst (λ (x : ℕ). Letter Catalogue x) (sym e) is_C) (λ e. subst (λ (x : ℕ). Letter Catalogue x) (sym e) is_X) g

-- what line n of the text does
pub record LineBack (f u n : ℕ) (sec : Section) (s : Sheet) (r : List ℕ) : Type 0 where
  pub shaped : run sec Start (entry_line f u sec n s) ≡ Done
  pub fine : judged_line f u sec n (numbers_of (entry_line f u sec n s ++ r)) (upto f u n s) ≡ Fine
  pub next : stored_line f u sec n (get_or (entry_line f u sec n s ++ r) 0 0) (numbers_of (entry_line f u sec n s ++ r)) (upto f u n s) ≡ upto f u (n + 1) s

pub line_back : (f u t n : ℕ) (sec : Section) (s : Sheet) (r : List ℕ) → f ≤ u → 1 ≤ f → 1 ≤ n → UnusedLines f u t s → section_of f u n ≡ sec → Row f u sec n s → LineBack f u n sec s r
line_back f u t n Catalogue s r fu f1 n1 T e g =
    let lt = in_catalogue f u n e in
    let k = get_or s.letters (n - 1) 0 in
    let a = get_or s.befores (n - 1) 0 in
    let b = get_or s.afters (n - 1) 0 in
    let ha : a ≤ 99999 = omega (arith, g.1.0.1) in
    let hb : b ≤ 99999 = omega (arith, g.1.1.0.1) in
    let h = two_back k a b r ha hb in
    let z : n + 1 - 1 ≡ suc (n - 1) = one_more n 1 n1 in
    let lf : n < f = lt in
    let lu : n < u = omega arith in
    record {
      shaped = grammar.accepted Catalogue (line_text k (a ∷ b ∷ [])) (line (a_letter k g.0) (two_shaped a b ha hb));
      fine = fine_row f u n Catalogue (numbers_of (line_text k (a ∷ b ∷ []) ++ r)) (upto f u n s)
          (subst (λ (x : ℕ). RowGood f u Catalogue n x (numbers_of (line_text k (a ∷ b ∷ []) ++ r)).second 0 s) (sym h.0)
          (subst (λ (x : ℕ). RowGood f u Catalogue n a x 0 s) (sym h.1) g.1));
      next = same_sheet (put_entry (n - 1) (n + 1 - 1) s.letters _ z (letter_back k g.0)) (put_entry (n - 1) (n + 1 - 1) s.befores _ z h.0) (put_entry (n - 1) (n + 1 - 1) s.afters _ z h.1)
          (before_trim n f s.numbers lf) (before_trim n f s.weights lf)
          (before_trim n u s.firsts lu) (before_trim n u s.seconds lu) (before_trim n u s.ordering_weights lu);
    }
line_back f u t n Options s r fu f1 n1 T e g =
    let lt = in_options f u n e in
    let a = get_or s.numbers (n - f) 0 in
    let b = get_or s.weights (n - f) 0 in
    let ha : a ≤ 99999 = omega (arith, g.0.1) in
    let hb : b ≤ 99999 = omega (arith, g.1.0) in
    let h = two_back 70 a b r ha hb in
    let z : n + 1 - f ≡ suc (n - f) = one_more n f lt.0 in
    let n2 : f ≤ n + 1 = omega (arith, lt.0) in
    let lu : n < u = lt.1 in
    let p : f - 1 ≤ n - 1 = less_less f n 1 lt.0 in
    let q : f - 1 ≤ n + 1 - 1 = less_less f (n + 1) 1 n2 in
    let tk : take (n - f) (trim (n - f) s.numbers) ≡ take (n - f) s.numbers = trim_take (n - f) (n - f) s.numbers (le_refl (n - f)) in
    record {
      shaped = grammar.accepted Options (line_text 70 (a ∷ b ∷ [])) (line is_F (two_shaped a b ha hb));
      fine = fine_row f u n Options (numbers_of (line_text 70 (a ∷ b ∷ []) ++ r)) (upto f u n s)
          (subst (λ (x : ℕ). RowGood f u Options n x (numbers_of (line_text 70 (a ∷ b ∷ []) ++ r)).second 0 (upto f u n s)) (sym h.0)
          (subst (λ (x : ℕ). RowGood f u Options n a x 0 (upto f u n s)) (sym h.1)
          (g.0, (g.1.0, ap (λ (l : List ℕ). is_in a l) tk ∙ g.1.1))));
      next = same_sheet (full_trim (n - 1) (n + 1 - 1) (f - 1) s.letters (λ i le. (T.catalogue i le).0) p q) (full_trim (n - 1) (n + 1 - 1) (f - 1) s.befores (λ i le. (T.catalogue i le).1.0) p q)
          (full_trim (n - 1) (n + 1 - 1) (f - 1) s.afters (λ i le. (T.catalogue i le).1.1) p q)
          (put_entry (n - f) (n + 1 - f) s.numbers _ z h.0) (put_entry (n - f) (n + 1 - f) s.weights _ z h.1)
          (before_trim n u s.firsts lu) (before_trim n u s.seconds lu) (before_trim n u s.ordering_weights lu);
    }
line_back f u t n Orderings s r fu f1 n1 T e g =
    let lt = in_orderings f u n e in
    let a = get_or s.firsts (n - u) 0 in
    let b = get_or s.seconds (n - u) 0 in
    let w = get_or s.ordering_weights (n - u) 0 in
    let ha : a ≤ 99999 = omega (arith, g.0.1) in
    let hb : b ≤ 99999 = omega (arith, g.1.0.1) in
    let hw : w ≤ 99999 = omega (arith, g.1.1.0) in
    let h = three_back 85 a b w r ha hb hw in
    let H = numbers_of (line_text 85 (a ∷ b ∷ w ∷ []) ++ r) in
    let z : n + 1 - u ≡ suc (n - u) = one_more n u lt.1 in
    let n2 : f ≤ n + 1 = omega (arith, lt.0) in
    let n3 : u ≤ n + 1 = omega (arith, lt.1) in
    let p : f - 1 ≤ n - 1 = less_less f n 1 lt.0 in
    let q : f - 1 ≤ n + 1 - 1 = less_less f (n + 1) 1 n2 in
    let p₂ : u - f ≤ n - f = less_less u n f lt.1 in
    let q₂ : u - f ≤ n + 1 - f = less_less u (n + 1) f n3 in
    let ti : take (u - f) (trim (n - f) s.numbers) ≡ take (u - f) s.numbers = trim_take (u - f) (n - f) s.numbers p₂ in
    let tf : take (n - u) (trim (n - u) s.firsts) ≡ take (n - u) s.firsts = trim_take (n - u) (n - u) s.firsts (le_refl (n - u)) in
    let ts : take (n - u) (trim (n - u) s.seconds) ≡ take (n - u) s.seconds = trim_take (n - u) (n - u) s.seconds (le_refl (n - u)) in
    let k = g.1.1.1.1 in
    record {
      shaped = grammar.accepted Orderings (line_text 85 (a ∷ b ∷ w ∷ [])) (line is_U (three_shaped a b w ha hb hw));
      fine = fine_row f u n Orderings H (upto f u n s)
          (subst (λ (x : ℕ). RowGood f u Orderings n x H.second H.third (upto f u n s)) (sym h.0)
          (subst (λ (x : ℕ). RowGood f u Orderings n a x H.third (upto f u n s)) (sym h.1.0)
          (subst (λ (x : ℕ). RowGood f u Orderings n a b x (upto f u n s)) (sym h.1.1) (
            g.0,
            (
              g.1.0,
              (
                g.1.1.0,
                (
                  g.1.1.1.0,
                  (
                    ap (λ (l : List ℕ). is_in a l) ti ∙ k.0,
                    (
                      ap (λ (l : List ℕ). is_in b l) ti ∙ k.1.0,
                      ap (λ (l : List ℕ). is_pair a b l (take (n - u) (trim (n - u) s.seconds))) tf ∙ ap (λ (l : List ℕ). is_pair a b (take (n - u) s.firsts) l) ts ∙ k.1.1,
                    ),
                  ),
                ),
              ),
            ),
          ))));
      next = same_sheet (full_trim (n - 1) (n + 1 - 1) (f - 1) s.letters (λ i le. (T.catalogue i le).0) p q) (full_trim (n - 1) (n + 1 - 1) (f - 1) s.befores (λ i le. (T.catalogue i le).1.0) p q)
          (full_trim (n - 1) (n + 1 - 1) (f - 1) s.afters (λ i le. (T.catalogue i le).1.1) p q)
          (full_trim (n - f) (n + 1 - f) (u - f) s.numbers (λ i le. (T.options i le).0) p₂ q₂) (full_trim (n - f) (n + 1 - f) (u - f) s.weights (λ i le. (T.options i le).1) p₂ q₂)
          (put_entry (n - u) (n + 1 - u) s.firsts _ z h.0) (put_entry (n - u) (n + 1 - u) s.seconds _ z h.1.0) (put_entry (n - u) (n + 1 - u) s.ordering_weights _ z h.1.1);
    }
line_back f u t n Trailer s r fu f1 n1 T e g = absurd g

module _ (f u t : ℕ) (s : Sheet) (R : Rule f u t s) where
  fu : f ≤ u
  fu = omega (arith, R.f_is, R.u_is)

  ut : u ≤ t
  ut = omega (arith, R.u_is, R.t_is)

  f1 : 1 ≤ f
  f1 = omega (arith, R.f_is)

  at_line : (n : ℕ) (r : List ℕ) → 1 ≤ n → n < t → LineBack f u n (section_of f u n) s r
  at_line n r p q = line_back f u t n (section_of f u n) s r fu f1 p R.unused refl (R.lines n p q)

  pub all_shaped : Shaped f u (t - 1) 1 s
  all_shaped m p q = (at_line m [] p (omega (arith, f1, fu, ut))).shaped

  whole_sheet : upto f u t s ≡ s
  whole_sheet = same_sheet
      (trim_all (t - 1) s.letters (λ i h. (R.unused.catalogue i (omega (arith, fu, ut))).0)) (trim_all (t - 1) s.befores (λ i h. (R.unused.catalogue i (omega (arith, fu, ut))).1.0))
      (trim_all (t - 1) s.afters (λ i h. (R.unused.catalogue i (omega (arith, fu, ut))).1.1))
      (trim_all (t - f) s.numbers (λ i h. (R.unused.options i (omega (arith, fu, ut))).0)) (trim_all (t - f) s.weights (λ i h. (R.unused.options i (omega (arith, fu, ut))).1))
      (trim_all (t - u) s.firsts (λ i h. (R.unused.orderings i h).0)) (trim_all (t - u) s.seconds (λ i h. (R.unused.orderings i h).1.0)) (trim_all (t - u) s.ordering_weights (λ i h. (R.unused.orderings i h).1.1))

  pub lines_back : (k n : ℕ) (tr : List ℕ) → n + k ≡ t → 1 ≤ n → read_lines f u Accepted k n (body_text f u k n s ++ tr) (upto f u n s) ≡ accepted s
  unfolding read_lines body_text
  lines_back zero n tr e p =
      let z : n ≡ t = omega arith in
      ap (λ (x : Sheet). accepted x) (ap (λ (i : ℕ). upto f u i s) z ∙ whole_sheet)
  lines_back (suc k) n tr e p =
      let sec = section_of f u n in
      let x = line_of f u n s in
      let r = body_text f u k (n + 1) s ++ tr in
      let b = at_line n r p (omega arith) in
      let w : (x ++ body_text f u k (n + 1) s) ++ tr ≡ x ++ r = append_assoc x (body_text f u k (n + 1) s) tr in
      ap (λ (l : List ℕ). read_lines f u Accepted (suc k) n l (upto f u n s)) w
      ∙ one_line f u Accepted k n (x ++ r) x r (upto f u n s) refl b.shaped
      ∙ ap (λ (v : Judged). after_judged v n (read_lines f u Accepted k (n + 1) r (stored_line f u sec n (get_or (x ++ r) 0 0) (numbers_of (x ++ r)) (upto f u n s)))) b.fine
      ∙ ap (λ (y : Sheet). read_lines f u Accepted k (n + 1) r y) b.next
      ∙ lines_back k (n + 1) tr (omega arith) (omega arith)

  zeros_at : (k m : ℕ) (l : List ℕ) → k ≡ 0 → length l ≡ m → replicate m 0 ≡ trim k l
  zeros_at k m l e d = ap (λ (i : ℕ). replicate i 0) (sym d) ∙ sym (trim_none l) ∙ ap (λ (i : ℕ). trim i l) (sym e)

  pub sized_first : sized (f - 1) (u - f) (t - u) ≡ upto f u 1 s
  sized_first =
      let a : 1 - f ≡ 0 = omega (arith, f1) in
      let b : 1 - u ≡ 0 = omega (arith, f1, fu) in
      let c : f - 1 ≡ s.catalogue_lines = omega (arith, R.f_is) in
      let o : u - f ≡ s.option_count = omega (arith, R.f_is, R.u_is) in
      let r : t - u ≡ s.ordering_count = omega (arith, R.u_is, R.t_is) in
      ap (λ (i : ℕ). sized i (u - f) (t - u)) c ∙ ap (λ (i : ℕ). sized s.catalogue_lines i (t - u)) o ∙ ap (λ (i : ℕ). sized s.catalogue_lines s.option_count i) r
      ∙ same_sheet (zeros_at (1 - 1) 512 s.letters refl R.lengths.letters) (zeros_at (1 - 1) 512 s.befores refl R.lengths.befores) (zeros_at (1 - 1) 512 s.afters refl R.lengths.afters)
      (zeros_at (1 - f) 32 s.numbers a R.lengths.numbers) (zeros_at (1 - f) 32 s.weights a R.lengths.weights)
      (zeros_at (1 - u) 64 s.firsts b R.lengths.firsts) (zeros_at (1 - u) 64 s.seconds b R.lengths.seconds) (zeros_at (1 - u) 64 s.ordering_weights b R.lengths.ordering_weights)
