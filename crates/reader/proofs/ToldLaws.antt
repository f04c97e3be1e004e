-- The reader's answer is told by one row of the requirements' table, and by no other.
use Prim.Native.Nat.{ℕ, zero, suc, ◌+◌, ◌-◌, ◌*◌, ◌≤◌, ◌<◌}
use mathlib.Core.Path.{◌≡◌, refl, sym, ap, subst, ◌∙◌}
use mathlib.Core.Bool.{Bool, true, false, cond}
use mathlib.Core.List.{List, [], ◌∷◌, ◌++◌, append-nil}
use native.Mathlib.Omega.{arith}
use lib.Dec.{eqb, ltb}
use lib.ListN.{length, take, drop, get_or, take-append-drop}
use lib.Seq.{drop-append_seam, take-append_seam}
use borrow.Author.Tests.{lt-ltb, le-ltb, eq-eqb, ltb-true, ltb-false}
use Rattle.shape.specs.Grammar.{run, Line.line, Letter.is_T}
use Rattle.shape.specs.Number.{number_value, number_width, numbers_of}
use Rattle.lines.specs.Result.{refused_at}
use Rattle.reader.specs.Read.{read_sheet, read_trailed, read_body, bad_trailer}
use Rattle.shape.specs.Scan.{first_misshapen}
use Rattle.sheet.specs.Sheet.{sized}
use Rattle.shape.specs.LineText.{line_text}
use Rattle.shape.specs.Trailer.{line_ends, whole_lines, last_line_from, last_line, is_trailer, is_done}
use Rattle.reader.specs.Verdict.{Verdict, EndsInTrailer, GoodTrailer, Told, Told.sheet_too_long, Told.no_trailer, Told.trailer_bad, Told.too_many_catalogue_lines, Told.too_many_options, Told.too_many_orderings, Told.lines}
use Rattle.shape.specs.declared.number.Numbers.{Numbers}
use Rattle.shape.specs.declared.trailer.LastLine.{LastLine}
use Rattle.sheet.specs.declared.answer.Refusal.TheVariants.{SheetTooLong, NoTrailer, BadTrailer, TooManyLines}
use Rattle.lines.specs.declared.result.Reading.{Reading}
use Rattle.shape.specs.declared.shape.Section.TheVariants.{Trailer}
use Rattle.shape.specs.declared.shape.State.TheVariants.{Start, Done}
use Rattle.shape.proofs.ReadBackLaws.{three_back, three_shaped}
use Rattle.shape.proofs.PassOverLaws.{ends_over}
use Rattle.shape.proofs.GrammarLaws as grammar
use Rattle.shape.proofs.NumberLaws.{cap, cap_top}
use Rattle.reader.proofs.ReadLaws.{good_trailer, read_on, read_not}
use Rattle.shape.proofs.LineEndLaws.{done_of}
use Rattle.shape.proofs.SplitLaws.{last_line_after_whole}
use Rattle.reader.proofs.StoredLaws.{text_for, line_as_text}
use Rattle.reader.proofs.VerdictLaws.{body_verdict}
use Rattle.reader.proofs.OneVerdictLaws.{one_verdict}

-- a number of at most five digits
value_cap : (m j v : ℕ) (l : List ℕ) → v ≤ cap j → number_value m v l ≤ cap (j + m)
unfolding cap
value_cap zero j v l h =
    let e : j + 0 ≡ j = omega arith in
    rw e h
value_cap (suc m) j v [] h =
    let g = value_cap m (suc j) v [] (omega arith) in
    let e : j + suc m ≡ suc j + m = omega arith in
    rw e (more m v (suc j) g)
  where
    more : (m v j : ℕ) → number_value m v [] ≤ cap (j + m) → v ≤ cap (j + m)
    more zero v j h = h
    more (suc m) v j h = h
value_cap (suc m) j v (b ∷ l) h = go (ltb b 48) (ltb 57 b) refl (λ g. value_cap m (suc j) (v * 10 + (b - 48)) l g)
  where
    up : (i : ℕ) → v ≤ cap i → (k : ℕ) → v ≤ cap (i + k)
    up i p zero =
        let e : i + 0 ≡ i = omega arith in
        rw e p
    up i p (suc k) =
        let e : i + suc k ≡ suc i + k = omega arith in
        rw e (up (suc i) (omega arith) k)

    go : (s t : Bool) → ltb 57 b ≡ t → (v * 10 + (b - 48) ≤ cap (suc j) → number_value m (v * 10 + (b - 48)) l ≤ cap (suc j + m))
        → cond s v (cond t v (number_value m (v * 10 + (b - 48)) l)) ≤ cap (j + suc m)
    go true t e ih = up j h (suc m)
    go false true e ih = up j h (suc m)
    go false false e ih =
        let k : j + suc m ≡ suc j + m = omega arith in
        let b57 = ltb-false 57 b e in
        rw k (ih (omega arith))

five : (l : List ℕ) → number_value 5 0 l ≤ 99999
five l =
    let a = value_cap 5 0 0 l (omega arith) in
    let e : 0 + 5 ≡ 5 = omega arith in
    let b : number_value 5 0 l ≤ cap 5 = rw e at a in
    omega (arith, b, cap_top 5 (omega arith))

-- lines, whatever they are: the next line begins after them
front_ends : (front r : List ℕ) (i start last n : ℕ) (t : Bool) → (t ≡ true → start ≡ i) → whole_lines t front ≡ true
    → (k : ℕ) × (last_line_from (front ++ r) i start last n ≡ last_line_from r (i + length front) (i + length front) k (n + line_ends front))
front_ends [] r i start last n t h c =
    let e : i + 0 ≡ i = omega arith in
    let d : n + 0 ≡ n = omega arith in
    (last, rw (e, d) (ap (λ (x : ℕ). last_line_from r i x last n) (h c)))
front_ends (b ∷ front) r i start last n t h c = go (eqb b 10) refl c
    (λ s l m t h c. front_ends front r (i + 1) s l m t h c)
  where
    far : i + suc (length front) ≡ i + 1 + length front
    far = omega arith

    Goal : Bool → Type 0
    Goal x = (k : ℕ) × (last_line_from (front ++ r) (i + 1) (cond x (i + 1) start) (cond x start last) (cond x (n + 1) n)
        ≡ last_line_from r (i + suc (length front)) (i + suc (length front)) k (n + cond x (suc (line_ends front)) (line_ends front)))

    Ih : Type 0
    Ih = (s l m : ℕ) (t : Bool) → (t ≡ true → s ≡ i + 1) → whole_lines t front ≡ true
        → (k : ℕ) × (last_line_from (front ++ r) (i + 1) s l m ≡ last_line_from r (i + 1 + length front) (i + 1 + length front) k (m + line_ends front))

    go : (x : Bool) → eqb b 10 ≡ x → whole_lines x front ≡ true → Ih → Goal x
    go true e c ih =
        let z = ih (i + 1) start (n + 1) true (λ q. refl) c in
        let m : n + suc (line_ends front) ≡ n + 1 + line_ends front = omega arith in
        (z.0, rw (far, m) z.1)
    go false e c ih =
        let z = ih start last n false (λ q. cc) c in
        (z.0, rw far z.1)

module _ (text front : List ℕ) (f u t : ℕ) (T : EndsInTrailer text front f u t) where
  abbrev end_line : List ℕ
  end_line = line_text 84 (f ∷ u ∷ t ∷ [])

  end_done : run Trailer Start end_line ≡ Done
  end_done = grammar.accepted Trailer end_line (line is_T (three_shaped f u t T.five_digits.0 T.five_digits.1.0 T.five_digits.1.1))

  abbrev found : LastLine
  found = record { start = length front; lines = suc (line_ends front) }

  ends_found : found ≡ last_line text
  ends_found =
      let a = front_ends front end_line 0 0 0 0 true (λ q. refl) T.lines in
      let b = ends_over Trailer [] end_line (0 + length front) (0 + length front) a.0 (0 + line_ends front) Start (λ q. cc) end_done in
      let k : 0 + length front ≡ length front = omega arith in
      let m : 0 + line_ends front + 1 ≡ suc (line_ends front) = omega arith in
      sym (ap last_line T.whole ∙ a.1 ∙ ap (λ (l : List ℕ). last_line_from l (0 + length front) (0 + length front) a.0 (0 + line_ends front)) (sym (append-nil end_line)) ∙ b ∙ rw (k, m))

  end_drop : drop (length front) text ≡ end_line
  end_drop = ap (λ (l : List ℕ). drop (length front) l) T.whole ∙ drop-append_seam front end_line

  pub end_is_trailer : is_trailer (drop (length front) text) ≡ true
  end_is_trailer = ap is_trailer end_drop ∙ ap is_done end_done

  same_read : (at n : ℕ) {a a' b b' w w' : ℕ} → a ≡ a' → b ≡ b' → w ≡ w' → read_trailed text at n a b w ≡ read_trailed text at n a' b' w'
  same_read at n ea eb ew = λ i. read_trailed text at n (ea i) (eb i) (ew i)

  -- the answer goes by the trailer
  pub answer_by : length text ≤ 8192 → read_trailed text (length front) (suc (line_ends front)) f u t ≡ read_sheet text
  answer_by le =
      let h : Numbers = numbers_of (drop (length front) text) in
      let k = three_back 84 f u t [] T.five_digits.0 T.five_digits.1.0 T.five_digits.1.1 in
      let e : h ≡ numbers_of (end_line ++ []) = ap (λ (l : List ℕ). numbers_of l) (end_drop ∙ sym (append-nil end_line)) in
      read_on text found h _ le ends_found end_is_trailer refl
      (sym (same_read (length front) (suc (line_ends front)) (ap (λ (x : Numbers). x.first) e ∙ k.0) (ap (λ (x : Numbers). x.second) e ∙ k.1.0) (ap (λ (x : Numbers). x.third) e ∙ k.1.1)))

  ordered_good : (n : ℕ) → GoodTrailer f u t n → bad_trailer f u t n ≡ false
  ordered_good n o = rw (le-ltb f 1 o.0, le-ltb u f o.1.0, le-ltb t u o.1.1.0, eq-eqb t n o.1.1.1)

  -- the verdict of the lines before the trailer
  pub lines_verdict : GoodTrailer f u t (suc (line_ends front))
      → Verdict f u (t - 1) 1 text (sized (f - 1) (u - f) (t - u)) (read_body f u text (sized (f - 1) (u - f) (t - u)) t (first_misshapen f u (take (length front) text)))
  lines_verdict o =
      let S = sized (f - 1) (u - f) (t - u) in
      let k : line_ends front ≡ t - 1 = omega (arith, o.1.1.1) in
      let v = body_verdict f u t front end_line S k T.lines in
      let tk : take (length front) text ≡ front = ap (λ (l : List ℕ). take (length front) l) T.whole ∙ take-append_seam front end_line in
      let a = subst (λ (x : List ℕ). Verdict f u (t - 1) 1 (front ++ end_line) S (read_body f u (front ++ end_line) S t (first_misshapen f u x))) (sym tk) v in
      subst (λ (x : List ℕ). Verdict f u (t - 1) 1 x S (read_body f u x S t (first_misshapen f u (take (length front) text)))) (sym T.whole) a

  pub trailered_told : length text ≤ 8192 → Told text (read_trailed text (length front) (suc (line_ends front)) f u t)
  unfolding read_trailed
  trailered_told le = by (bad_trailer f u t n) (ltb 512 (f - 1)) (ltb 32 (u - f)) (ltb 64 (t - u)) refl refl refl refl
    where
      n : ℕ
      n = suc (line_ends front)

      o : Reading
      o = read_body f u text (sized (f - 1) (u - f) (t - u)) t (first_misshapen f u (take (length front) text))

      by : (a b c d : Bool) → bad_trailer f u t n ≡ a → ltb 512 (f - 1) ≡ b → ltb 32 (u - f) ≡ c → ltb 64 (t - u) ≡ d
          → Told text (cond a (refused_at BadTrailer n 1) (cond b (refused_at TooManyLines 513 1) (cond c (refused_at TooManyLines (f + 32) 1) (cond d (refused_at TooManyLines (u + 64) 1) o))))
      by true b c d ea eb ec ed = trailer_bad front f u t le T (λ g. bad g)
        where
          bad : GoodTrailer f u t n → ⊥
          bad g =
              let z : true ≡ false = sym ea ∙ ordered_good n g in
              cc
      by false true c d ea eb ec ed = too_many_catalogue_lines front f u t le T (good_trailer f u t n ea) (ltb-true 512 (f - 1) eb)
      by false false true d ea eb ec ed = too_many_options front f u t le T (good_trailer f u t n ea) (ltb-false 512 (f - 1) eb) (ltb-true 32 (u - f) ec)
      by false false false true ea eb ec ed =
          too_many_orderings front f u t le T (good_trailer f u t n ea) (ltb-false 512 (f - 1) eb) (ltb-false 32 (u - f) ec) (ltb-true 64 (t - u) ed)
      by false false false false ea eb ec ed =
          lines front f u t le T (good_trailer f u t n ea) (ltb-false 512 (f - 1) eb) (ltb-false 32 (u - f) ec) (ltb-false 64 (t - u) ed) (lines_verdict (good_trailer f u t n ea))

fields_five : (l : List ℕ) → ((numbers_of l).first ≤ 99999) × (((numbers_of l).second ≤ 99999) × ((numbers_of l).third ≤ 99999))
fields_five l =
    let p : ℕ = 2 + number_width 5 (drop 2 l) + 1 in
    let q : ℕ = p + number_width 5 (drop p l) + 1 in
    (five (drop 2 l), (five (drop p l), five (drop q l)))

-- the last whole line, where it is a trailer
trailer_there : (text : List ℕ) → is_trailer (drop (last_line text).start text) ≡ true
    → (front : List ℕ) × (f : ℕ) × (u : ℕ) × (t : ℕ) × EndsInTrailer text front f u t
trailer_there text e =
    let at = (last_line text).start in
    let h = numbers_of (drop at text) in
    let ln = grammar.accepts Trailer (drop at text) (done_of _ e) in
    let tx : drop at text ≡ line_text 84 (h.first ∷ h.second ∷ h.third ∷ [])
    = line_as_text Trailer (drop at text) [] ln ∙ ap (λ (x : List ℕ). text_for Trailer (get_or x 0 0) (numbers_of x)) (append-nil (drop at text)) in (
      take at text,
      h.first,
      h.second,
      h.third,
      record {
        whole = sym (take-append-drop at text) ∙ ap (λ (x : List ℕ). take at text ++ x) tx;
        lines = last_line_after_whole text text 0 0 0 0 refl refl refl;
        five_digits = fields_five (drop at text);
      },
    )

no_trailer_there : (text : List ℕ) → is_trailer (drop (last_line text).start text) ≡ false → (front : List ℕ) (f u t : ℕ) → EndsInTrailer text front f u t → ⊥
no_trailer_there text e front f u t T =
    let a : length front ≡ (last_line text).start = ap (λ (x : LastLine). x.start) (ends_found text front f u t T) in
    let z : true ≡ false = sym (end_is_trailer text front f u t T) ∙ ap (λ (i : ℕ). is_trailer (drop i text)) a ∙ e in
    cc

too_long : (text : List ℕ) → 8192 < length text → refused_at SheetTooLong 0 0 ≡ read_sheet text
unfolding read_sheet
too_long text h = rw (lt-ltb 8192 (length text) h)

-- the reader's answer is told by a row
pub told : (text : List ℕ) → Told text (read_sheet text)
told text = by (ltb 8192 (length text)) refl
  where
    rest : (b : Bool) → is_trailer (drop (last_line text).start text) ≡ b → length text ≤ 8192 → Told text (read_sheet text)
    rest true e le =
        let T = trailer_there text e in
        subst (λ (o : Reading). Told text o) (answer_by text T.0 T.1 T.2 T.3 T.4 le) (trailered_told text T.0 T.1 T.2 T.3 T.4 le)
    rest false e le = subst (λ (o : Reading). Told text o) (read_not text (last_line text) (refused_at NoTrailer 0 0) le refl e refl) (no_trailer le (no_trailer_there text e))

    by : (b : Bool) → ltb 8192 (length text) ≡ b → Told text (read_sheet text)
    by true e = subst (λ (o : Reading). Told text o) (too_long text (ltb-true 8192 (length text) e)) (sheet_too_long (ltb-true 8192 (length text) e))
    by false e = rest (is_trailer (drop (last_line text).start text)) refl (ltb-false 8192 (length text) e)

-- the rows of the trailer, as the reader takes them
module _ (text : List ℕ) (at n f u t : ℕ) where
  bad_row : bad_trailer f u t n ≡ true → refused_at BadTrailer n 1 ≡ read_trailed text at n f u t
  unfolding read_trailed
  bad_row e = rw e

  module _ (e : bad_trailer f u t n ≡ false) where
    catalogue_row : 512 < f - 1 → refused_at TooManyLines 513 1 ≡ read_trailed text at n f u t
    unfolding read_trailed
    catalogue_row h = rw (e, lt-ltb 512 (f - 1) h)

    options_row : f - 1 ≤ 512 → 32 < u - f → refused_at TooManyLines (f + 32) 1 ≡ read_trailed text at n f u t
    unfolding read_trailed
    options_row p h = rw (e, le-ltb 512 (f - 1) p, lt-ltb 32 (u - f) h)

    orderings_row : f - 1 ≤ 512 → u - f ≤ 32 → 64 < t - u → refused_at TooManyLines (u + 64) 1 ≡ read_trailed text at n f u t
    unfolding read_trailed
    orderings_row p q h = rw (e, le-ltb 512 (f - 1) p, le-ltb 32 (u - f) q, lt-ltb 64 (t - u) h)

    lines_row : f - 1 ≤ 512 → u - f ≤ 32 → t - u ≤ 64
        → read_body f u text (sized (f - 1) (u - f) (t - u)) t (first_misshapen f u (take at text)) ≡ read_trailed text at n f u t
    unfolding read_trailed
    lines_row p q r = rw (e, le-ltb 512 (f - 1) p, le-ltb 32 (u - f) q, le-ltb 64 (t - u) r)

-- no other row tells an answer
pub told_only : (text : List ℕ) (o : Reading) → Told text o → o ≡ read_sheet text
told_only text o (sheet_too_long h) = too_long text h
told_only text o (no_trailer le none_there) = by (is_trailer (drop (last_line text).start text)) refl
  where
    by : (b : Bool) → is_trailer (drop (last_line text).start text) ≡ b → refused_at NoTrailer 0 0 ≡ read_sheet text
    by true e =
        let T = trailer_there text e in
        absurd (none_there T.0 T.1 T.2 T.3 T.4)
    by false e = read_not text (last_line text) (refused_at NoTrailer 0 0) le refl e refl
told_only text o (trailer_bad front f u t le T bad) = by (bad_trailer f u t (suc (line_ends front))) refl ∙ answer_by text front f u t T le
  where
    by : (b : Bool) → bad_trailer f u t (suc (line_ends front)) ≡ b → refused_at BadTrailer (suc (line_ends front)) 1 ≡ read_trailed text (length front) (suc (line_ends front)) f u t
    by true e = bad_row text (length front) (suc (line_ends front)) f u t e
    by false e = absurd (bad (good_trailer f u t (suc (line_ends front)) e))
told_only text o (too_many_catalogue_lines front f u t le T g h) = catalogue_row text (length front) (suc (line_ends front)) f u t (ordered_good text front f u t T (suc (line_ends front)) g) h ∙ answer_by text front f u t T le
told_only text o (too_many_options front f u t le T g p h) = options_row text (length front) (suc (line_ends front)) f u t (ordered_good text front f u t T (suc (line_ends front)) g) p h ∙ answer_by text front f u t T le
told_only text o (too_many_orderings front f u t le T g p q h) = orderings_row text (length front) (suc (line_ends front)) f u t (ordered_good text front f u t T (suc (line_ends front)) g) p q h ∙ answer_by text front f u t T le
told_only text o (lines front f u t le T g p q r v) =
    one_verdict v (lines_verdict text front f u t T g)
    ∙ lines_row text (length front) (suc (line_ends front)) f u t (ordered_good text front f u t T (suc (line_ends front)) g) p q r ∙ answer_by text front f u t T le

-- two answers for one text are equal
pub one_answer : (text : List ℕ) (o o' : Reading) → Told text o → Told text o' → o ≡ o'
one_answer text o o' a b = told_only text o a ∙ sym (told_only text o' b)
