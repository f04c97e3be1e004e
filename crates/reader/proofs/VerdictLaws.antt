-- The two passes of the reader give the verdict that goes line by line.
use Prim.Native.Nat.{ℕ, zero, suc, ◌+◌, ◌-◌, ◌<◌}
use mathlib.Core.Path.{◌≡◌, refl, sym, ap, subst, ◌∙◌}
use mathlib.Core.Logic.{◌⊎◌, inl, inr, ⊎_elim}
use mathlib.Core.Bool.{Bool, true}
use mathlib.Core.List.{List, [], ◌∷◌, ◌++◌, append_assoc}
use native.Mathlib.Omega.{arith}
use lib.ListN.{length, drop, get_or, length-append}
use lib.Seq.{drop-append_seam}
use borrow.Author.Tests.{ne_eqb}
use Rattle.shape.specs.Shape.{next_state}
use Rattle.shape.specs.Line.{line_length}
use Rattle.lines.specs.Lines.{read_lines, judged_line, after_judged}
use Rattle.lines.specs.Result.{refused, refused_at}
use Rattle.lines.specs.Stored.{stored_line}
use Rattle.shape.specs.Grammar.{run, CouldBegin, Line}
use Rattle.shape.specs.Number.{numbers_of}
use Rattle.shape.specs.Scan.{section_of, misshapen_from, step_to}
use Rattle.reader.specs.Read.{read_body}
use Rattle.shape.specs.Trailer.{line_ends}
use Rattle.reader.specs.Verdict.{MisshapenAt, Verdict, Verdict.over, Verdict.misshapen, Verdict.broken, Verdict.next}
use Rattle.sheet.specs.declared.judged.Judged.{Judged}
use Rattle.sheet.specs.declared.judged.Judged.TheVariants.{Fine, Broken}
use Rattle.sheet.specs.declared.sheet.Sheet.{Sheet}
use Rattle.sheet.specs.declared.answer.Refusal.TheVariants.{Misshapen}
use Rattle.sheet.specs.declared.answer.Answer.{Answer}
use Rattle.sheet.specs.declared.answer.Answer.TheVariants.{Accepted, Refused}
use Rattle.lines.specs.declared.result.Reading.{Reading}
use Rattle.shape.specs.declared.scan.Place.{Place}
use Rattle.shape.specs.declared.scan.Scanned.{Scanned}
use Rattle.shape.specs.declared.scan.Scanned.TheVariants.{Clean, At}
use Rattle.shape.specs.declared.shape.Section.{Section}
use Rattle.shape.specs.declared.shape.State.{State}
use Rattle.shape.specs.declared.shape.State.TheVariants.{Start, Gap, First, Digit, Done, Dead}
use Rattle.shape.proofs.GrammarLaws.{accepts, run_append, alive_could_begin, could_begin_alive}
use Rattle.shape.proofs.LineEndLaws.{alive_no_line_end, run_line_ends, line_ends_append, scan_line}
use Rattle.shape.proofs.SplitLaws.{split, shaped_line_length, whole_lines, whole_append, whole_line, whole_none}

-- a well-shaped first line, with the same answer of the scan after it
pub record SplitAt (f u n : ℕ) (l : List ℕ) (a : Scanned) : Type 0 where
  pub line : List ℕ
  pub rest : List ℕ
  pub whole : l ≡ line ++ rest
  pub shaped : run (section_of f u n) Start line ≡ Done
  pub same : misshapen_from f u rest (n + 1) 1 Start ≡ a

run_snoc : (sec : Section) (q : List ℕ) (b : ℕ) → run sec Start (q ++ (b ∷ [])) ≡ next_state sec (run sec Start q) b
run_snoc sec q b = run_append sec Start q (b ∷ [])

tens_snoc : (q : List ℕ) (b : ℕ) → line_ends q ≡ 0 → (b ≡ 10 → ⊥) → line_ends (q ++ (b ∷ [])) ≡ 0
tens_snoc q b e n =
    let z : line_ends (b ∷ []) ≡ 0 = rw (ne_eqb b 10 n) in
    line_ends_append q (b ∷ []) ∙ (omega arith)

bad_or_split : (f u n k : ℕ) (l q : List ℕ) (st : State) (p : Place) (y : ℕ) → run (section_of f u n) Start q ≡ st → (st ≡ Dead → ⊥) → line_ends q ≡ 0 → k ≡ suc (length q)
    → misshapen_from f u l n k st ≡ At p y → (MisshapenAt (section_of f u n) (q ++ l) p.column y × (p.line ≡ n)) ⊎ SplitAt f u n (q ++ l) (At p y)
bad_or_split f u n k [] q st p y er nd t ek e = cc
bad_or_split f u n k (b ∷ l) q st p y er nd t ek e =
    go (next_state sec st b) refl (λ k q st er nd t ek e. bad_or_split f u n k l q st p y er nd t ek e) e
  where
    sec : Section
    sec = section_of f u n

    Goal : Type 0
    Goal = (MisshapenAt sec (q ++ b ∷ l) p.column y × (p.line ≡ n)) ⊎ SplitAt f u n (q ++ b ∷ l) (At p y)

    Ih : Type 0
    Ih = (k : ℕ) (q : List ℕ) (st : State) → run sec Start q ≡ st → (st ≡ Dead → ⊥) → line_ends q ≡ 0 → k ≡ suc (length q)
        → misshapen_from f u l n k st ≡ At p y → (MisshapenAt sec (q ++ l) p.column y × (p.line ≡ n)) ⊎ SplitAt f u n (q ++ l) (At p y)

    ran : (s : State) → next_state sec st b ≡ s → run sec Start (q ++ (b ∷ [])) ≡ s
    ran s d = run_snoc sec q b ∙ ap (λ (x : State). next_state sec x b) er ∙ d

    joined : (q ++ (b ∷ [])) ++ l ≡ q ++ b ∷ l
    joined = append_assoc q (b ∷ []) l

    on : (s : State) → next_state sec st b ≡ s → (s ≡ Done → ⊥) → (s ≡ Dead → ⊥) → Ih → misshapen_from f u l n (k + 1) s ≡ At p y → Goal
    on s d p₁ p₂ ih e =
        let ln : length (q ++ (b ∷ [])) ≡ length q + 1 = length-append q (b ∷ []) in
        subst (λ (x : List ℕ). (MisshapenAt sec x p.column y × (p.line ≡ n)) ⊎ SplitAt f u n x (At p y)) joined
        (ih (k + 1) (q ++ (b ∷ [])) s (ran s d) p₂ (tens_snoc q b t (alive_no_line_end sec st s b d p₁ p₂)) (omega arith) e)

    go : (s : State) → next_state sec st b ≡ s → Ih → step_to n k b s (misshapen_from f u l) ≡ At p y → Goal
    go Start d ih e = on Start d (λ x. cc) (λ x. cc) ih e
    go (Gap x) d ih e = on (Gap x) d (λ x. cc) (λ x. cc) ih e
    go (First x) d ih e = on (First x) d (λ x. cc) (λ x. cc) ih e
    go (Digit x y) d ih e = on (Digit x y) d (λ x. cc) (λ x. cc) ih e
    go Done d ih e = inr (record { line = q ++ (b ∷ []); rest = l; whole = sym joined; shaped = ran Done d; same = e })
    go Dead d ih e =
        let c : p.column ≡ k = cc in
        let m : p.line ≡ n = cc in
        let same : b ≡ y = cc in
        inl (
          record {
            front = q;
            rest = l;
            whole = ap (λ (x : ℕ). q ++ x ∷ l) same;
            in_line = t;
            could = alive_could_begin sec q (λ x. nd (sym er ∙ x));
            cannot = λ v. could_begin_alive sec (q ++ (b ∷ [])) (subst (λ (x : ℕ). CouldBegin sec (q ++ (x ∷ []))) (sym same) v) (ran Dead d);
            column = c ∙ ek;
          },
          m,
        )

-- the second pass, after the answer of the first
abbrev passes : ℕ → ℕ → ℕ → ℕ → List ℕ → Sheet → Scanned → Reading
passes f u k n text S Clean = read_lines f u Accepted k n text S
passes f u k n text S (At p y) = read_lines f u (Refused p Misshapen) (p.line - n) n text S

-- one line of the second pass
pub one_line : (f u : ℕ) (a : Answer) (j n : ℕ) (text x r : List ℕ) (S : Sheet) → text ≡ x ++ r → run (section_of f u n) Start x ≡ Done
    → read_lines f u a (suc j) n text S
    ≡ after_judged (judged_line f u (section_of f u n) n (numbers_of text) S) n (read_lines f u a j (n + 1) r (stored_line f u (section_of f u n) n (get_or text 0 0) (numbers_of text) S))
unfolding read_lines
one_line f u a j n text x r S w sh =
    let e : line_length text ≡ length x = ap line_length w ∙ shaped_line_length (section_of f u n) x r Start (λ p. cc) sh in
    let d : drop (line_length text) text ≡ r = ap (λ (i : ℕ). drop i text) e ∙ ap (λ (l : List ℕ). drop (length x) l) w ∙ drop-append_seam x r in
    ap (λ (l : List ℕ). after_judged (judged_line f u (section_of f u n) n (numbers_of text) S) n (read_lines f u a j (n + 1) l (stored_line f u (section_of f u n) n (get_or text 0 0) (numbers_of text) S))) d

one_pass : (f u k n : ℕ) (text x r : List ℕ) (S : Sheet) (a : Scanned) → text ≡ x ++ r → run (section_of f u n) Start x ≡ Done
    → ((p : Place) (y : ℕ) → a ≡ At p y → n < p.line)
    → passes f u (suc k) n text S a
    ≡ after_judged (judged_line f u (section_of f u n) n (numbers_of text) S) n (passes f u k (n + 1) r (stored_line f u (section_of f u n) n (get_or text 0 0) (numbers_of text) S) a)
one_pass f u k n text x r S Clean w sh lt = one_line f u Accepted k n text x r S w sh
one_pass f u k n text x r S (At p y) w sh lt =
    let h = lt p y refl in
    let e : p.line - n ≡ suc (p.line - (n + 1)) = omega arith in
    ap (λ (j : ℕ). read_lines f u (Refused p Misshapen) j n text S) e ∙ one_line f u (Refused p Misshapen) (p.line - (n + 1)) n text x r S w sh

judge_on : (f u k n : ℕ) (text x r : List ℕ) (S : Sheet) (o : Reading) (v : Judged) → text ≡ x ++ r → Line (section_of f u n) x
    → judged_line f u (section_of f u n) n (numbers_of text) S ≡ v
    → Verdict f u k (n + 1) r (stored_line f u (section_of f u n) n (get_or text 0 0) (numbers_of text) S) o
    → Verdict f u (suc k) n text S (after_judged v n o)
judge_on f u k n text x r S o Fine w ln e h = next x r w ln e h
judge_on f u k n text x r S o (Broken why c) w ln e h = broken x r w ln e

wider : (sec : Section) (l tr : List ℕ) (c y : ℕ) → MisshapenAt sec l c y → MisshapenAt sec (l ++ tr) c y
wider sec l tr c y b = record {
  front = b.front;
  rest = b.rest ++ tr;
  whole = ap (λ (x : List ℕ). x ++ tr) b.whole ∙ append_assoc b.front (y ∷ b.rest) tr;
  in_line = b.in_line;
  could = b.could;
  cannot = b.cannot;
  column = b.column;
}

module _ (f u : ℕ) (tr : List ℕ) where
  abbrev Told : ℕ → Type 0
  Told k = (n : ℕ) (l : List ℕ) (S : Sheet) (a : Scanned) → line_ends l ≡ k → whole_lines true l ≡ true → misshapen_from f u l n 1 Start ≡ a
      → Verdict f u k n (l ++ tr) S (passes f u k n (l ++ tr) S a)

  go_on : (k n : ℕ) (l : List ℕ) (S : Sheet) (a : Scanned) (x y : List ℕ) → l ≡ x ++ y → run (section_of f u n) Start x ≡ Done
      → misshapen_from f u y (n + 1) 1 Start ≡ a → line_ends l ≡ suc k → whole_lines true l ≡ true → Told k
      → Verdict f u (suc k) n (l ++ tr) S (passes f u (suc k) n (l ++ tr) S a)
  go_on k n l S a x y w sh e t cl ih =
      let sec = section_of f u n in
      let ns : Start ≡ Done → ⊥ = λ p. cc in
      let v : l ++ tr ≡ x ++ (y ++ tr) = ap (λ (z : List ℕ). z ++ tr) w ∙ append_assoc x y tr in
      let t₁ : line_ends x ≡ 1 = run_line_ends sec x Start ns sh in
      let t₂ : line_ends l ≡ line_ends x + line_ends y = ap line_ends w ∙ line_ends_append x y in
      let t₃ : line_ends y ≡ k = omega arith in
      let cy : whole_lines true y ≡ true
      = ap (λ (q : Bool). whole_lines q y) (sym (whole_line sec x Start true ns sh)) ∙ sym (whole_append true x y) ∙ ap (λ (q : List ℕ). whole_lines true q) (sym w) ∙ cl in
      let lt : (p : Place) (b : ℕ) → a ≡ At p b → n < p.line = λ p b q. omega (arith, scan_line f u y (n + 1) 1 Start p b (e ∙ q)) in
      let S' = stored_line f u sec n (get_or (l ++ tr) 0 0) (numbers_of (l ++ tr)) S in
      subst (λ (o : Reading). Verdict f u (suc k) n (l ++ tr) S o) (sym (one_pass f u k n (l ++ tr) x (y ++ tr) S a v sh lt))
      (judge_on f u k n (l ++ tr) x (y ++ tr) S _ (judged_line f u sec n (numbers_of (l ++ tr)) S) v (accepts sec x sh) refl (ih (n + 1) y S' a t₃ cy e))

  bad_first : (k n : ℕ) (l : List ℕ) (S : Sheet) (p : Place) (y : ℕ) → MisshapenAt (section_of f u n) l p.column y → p.line ≡ n
      → Verdict f u (suc k) n (l ++ tr) S (passes f u (suc k) n (l ++ tr) S (At p y))
  unfolding read_lines
  bad_first k n l S p y b m =
      let z : p.line - n ≡ 0 = omega arith in
      let o : refused_at Misshapen n p.column ≡ refused p Misshapen = λ i. refused (record { line = m₀ i; column = p.column }) Misshapen in
      subst (λ (o : Reading). Verdict f u (suc k) n (l ++ tr) S o) (o ∙ ap (λ (j : ℕ). read_lines f u (Refused p Misshapen) j n (l ++ tr) S) (sym z))
      (misshapen (wider (section_of f u n) l tr p.column y b))
    where
      m₀ : n ≡ p.line
      m₀ = sym m

  verdict : (k : ℕ) → Told k
  unfolding read_lines
  verdict zero n l S Clean t cl e = over
  verdict zero n l S (At p y) t cl e =
      let z : misshapen_from f u [] n 1 Start ≡ At p y = subst (λ (x : List ℕ). misshapen_from f u x n 1 Start ≡ At p y) (whole_none l t cl) e in
      cc
  verdict (suc k) n l S Clean t cl e =
      let z = split f u n l 1 Start k e t in
      go_on k n l S Clean z.line z.rest z.whole z.shaped z.clean t cl (verdict k)
  verdict (suc k) n l S (At p y) t cl e =
      let ih = verdict k in
      ⊎_elim (λ w. bad_first k n l S p y w.0 w.1) (λ z. go_on k n l S (At p y) z.line z.rest z.whole z.shaped z.same t cl ih)
      (bad_or_split f u n 1 l [] Start p y refl (λ x. cc) refl refl e)

-- what the reader answers about the lines before the trailer is the verdict line by line
pub body_verdict : (f u t : ℕ) (l tr : List ℕ) (S : Sheet) → line_ends l ≡ t - 1 → whole_lines true l ≡ true
    → Verdict f u (t - 1) 1 (l ++ tr) S (read_body f u (l ++ tr) S t (misshapen_from f u l 1 1 Start))
unfolding read_body
body_verdict f u t l tr S k cl = by (misshapen_from f u l 1 1 Start) refl
  where
    by : (a : Scanned) → misshapen_from f u l 1 1 Start ≡ a → Verdict f u (t - 1) 1 (l ++ tr) S (read_body f u (l ++ tr) S t a)
    by Clean e = verdict f u tr (t - 1) 1 l S Clean k cl e
    by (At p y) e = verdict f u tr (t - 1) 1 l S (At p y) k cl e
