-- A sheet's lines have one verdict.
use Prim.Native.Nat.{ℕ, ◌+◌, ◌≤◌, ◌<◌}
use mathlib.Core.Path.{◌≡◌, refl, sym, ap, subst, ◌∙◌}
use mathlib.Core.Bool.{Bool, true, false}
use mathlib.Core.List.{List, [], ◌∷◌, ◌++◌, append_assoc, append-nil}
use native.Mathlib.Omega.{arith}
use lib.Dec.{ltb}
use lib.ListN.{length, drop, get_or}
use lib.Seq.{drop-append_seam}
use borrow.Author.Tests.{ltb-true, ltb-false}
use Rattle.shape.specs.Line.{line_length}
use Rattle.lines.specs.Stored.{stored_line}
use Rattle.shape.specs.Grammar.{Line, CouldBegin}
use Rattle.shape.specs.Number.{numbers_of}
use Rattle.lines.specs.Result.{refused_at}
use Rattle.shape.specs.Scan.{section_of}
use Rattle.shape.specs.Trailer.{line_ends}
use Rattle.reader.specs.Verdict.{MisshapenAt, Verdict, Verdict.over, Verdict.misshapen, Verdict.broken, Verdict.next}
use Rattle.sheet.specs.declared.judged.Judged.TheVariants.{Fine, Broken}
use Rattle.sheet.specs.declared.sheet.Sheet.{Sheet}
use Rattle.sheet.specs.declared.answer.Refusal.TheVariants.{Misshapen}
use Rattle.lines.specs.declared.result.Reading.{Reading}
use Rattle.shape.specs.declared.shape.Section.{Section}
use Rattle.shape.specs.declared.shape.State.TheVariants.{Start}
use Rattle.shape.proofs.GrammarLaws as grammar
use Rattle.shape.proofs.LineEndLaws.{run_line_ends, line_ends_append}
use Rattle.shape.proofs.SplitLaws.{shaped_line_length}

tail_of : {a b : ℕ} {l r : List ℕ} → a ∷ l ≡ b ∷ r → l ≡ r
tail_of e = cc

-- the longer of two beginnings of a list has the shorter, and the byte after it
longer : (a : List ℕ) (x : ℕ) (r c s : List ℕ) → a ++ x ∷ r ≡ c ++ s → length a < length c → (q : List ℕ) × (c ≡ (a ++ (x ∷ [])) ++ q)
longer [] x r [] s e h = absurd (omega arith)
longer [] x r (y ∷ c) s e h = (c, head)
  where
    head : y ∷ c ≡ x ∷ c
    head =
        let z : x ≡ y = cc in
        ap (λ (b : ℕ). b ∷ c) (sym z)
longer (b ∷ a) x r [] s e h = absurd (omega arith)
longer (b ∷ a) x r (y ∷ c) s e h =
    let q = longer a x r c s (tail_of e) (omega arith) in
    let z : b ≡ y = cc in
    (q.0, ap (λ (i : ℕ). i ∷ c) (sym z) ∙ ap (λ (l : List ℕ). b ∷ l) q.1)

shorter : (a r c s : List ℕ) → a ++ r ≡ c ++ s → length a ≤ length c → (q : List ℕ) × (c ≡ a ++ q)
shorter [] r c s e h = (c, refl)
shorter (b ∷ a) r [] s e h = absurd (omega arith)
shorter (b ∷ a) r (y ∷ c) s e h =
    let q = shorter a r c s (tail_of e) (omega arith) in
    let z : b ≡ y = cc in
    (q.0, ap (λ (i : ℕ). i ∷ c) (sym z) ∙ ap (λ (l : List ℕ). b ∷ l) q.1)

-- a beginning of bytes with which a line begins is one too
begins : (sec : Section) (p q : List ℕ) → CouldBegin sec (p ++ q) → CouldBegin sec p
begins sec p q v = (q ++ v.0, subst (λ (l : List ℕ). Line sec l) (append_assoc p q v.0) v.1)

not_further : (sec : Section) (l c s : List ℕ) (k b : ℕ) (B : MisshapenAt sec l k b) → l ≡ c ++ s → CouldBegin sec c → length B.front < length c → ⊥
not_further sec l c s k b B e v h =
    let q = longer B.front b B.rest c s (sym B.whole ∙ e) h in
    B.cannot (begins sec (B.front ++ (b ∷ [])) q.0 (subst (λ (x : List ℕ). CouldBegin sec x) q.1 v))

one_place : (sec : Section) (l : List ℕ) (k b k' b' : ℕ) → MisshapenAt sec l k b → MisshapenAt sec l k' b' → k ≡ k'
one_place sec l k b k' b' A B = go (ltb (length A.front) (length B.front)) (ltb (length B.front) (length A.front)) refl refl
  where
    go : (s t : Bool) → ltb (length A.front) (length B.front) ≡ s → ltb (length B.front) (length A.front) ≡ t → k ≡ k'
    go true t p q = absurd (not_further sec l B.front (b' ∷ B.rest) k b A B.whole B.could (ltb-true _ _ p))
    go false true p q = absurd (not_further sec l A.front (b ∷ A.rest) k' b' B A.whole A.could (ltb-true _ _ q))
    go false false p q =
        let x = ltb-false (length A.front) (length B.front) p in
        let y = ltb-false (length B.front) (length A.front) q in
        omega (arith, x, y, A.column, B.column)

-- a first line that is misshapen is not well shaped
not_both : (sec : Section) (l x r : List ℕ) (k b : ℕ) → MisshapenAt sec l k b → l ≡ x ++ r → Line sec x → ⊥
not_both sec l x r k b B e n = go (ltb (length B.front) (length x)) refl
  where
    one_ten : line_ends x ≡ 1
    one_ten = run_line_ends sec x Start (λ p. cc) (grammar.accepted sec x n)

    go : (s : Bool) → ltb (length B.front) (length x) ≡ s → ⊥
    go true p = not_further sec l x r k b B e ([], subst (λ (y : List ℕ). Line sec y) (sym (append-nil x)) n) (ltb-true _ _ p)
    go false p =
        let q = shorter x r B.front (b ∷ B.rest) (sym e ∙ B.whole) (ltb-false _ _ p) in
        let t : line_ends B.front ≡ line_ends x + line_ends q.0 = ap line_ends q.1 ∙ line_ends_append x q.0 in
        omega (arith, t, B.in_line, one_ten)

same_rest : (sec : Section) (l x r x' r' : List ℕ) → l ≡ x ++ r → Line sec x → l ≡ x' ++ r' → Line sec x' → r ≡ r'
same_rest sec l x r x' r' e n e' n' =
    let a : line_length l ≡ length x = ap line_length e ∙ shaped_line_length sec x r Start (λ p. cc) (grammar.accepted sec x n) in
    let b : line_length l ≡ length x' = ap line_length e' ∙ shaped_line_length sec x' r' Start (λ p. cc) (grammar.accepted sec x' n') in
    sym (drop-append_seam x r) ∙ ap (λ (y : List ℕ). drop (length x) y) (sym e) ∙ ap (λ (i : ℕ). drop i l) (sym a ∙ b)
    ∙ ap (λ (y : List ℕ). drop (length x') y) e' ∙ drop-append_seam x' r'

pub one_verdict : {f u k n : ℕ} {l : List ℕ} {s : Sheet} {o o' : Reading} → Verdict f u k n l s o → Verdict f u k n l s o' → o ≡ o'
one_verdict over over = refl
one_verdict {f = f} {u = u} {n = n} {l = l} (misshapen {c = c} A) (misshapen {c = c'} B) = ap (λ (i : ℕ). refused_at Misshapen n i) (one_place (section_of f u n) l c _ c' _ A B)
one_verdict {f = f} {u = u} {n = n} {l = l} (misshapen A) (broken x r e m j) = absurd (not_both (section_of f u n) l x r _ _ A e m)
one_verdict {f = f} {u = u} {n = n} {l = l} (misshapen A) (next x r e m j v) = absurd (not_both (section_of f u n) l x r _ _ A e m)
one_verdict {f = f} {u = u} {n = n} {l = l} (broken x r e m j) (misshapen B) = absurd (not_both (section_of f u n) l x r _ _ B e m)
one_verdict {n = n} (broken {c = c} {why = k} x r e m j) (broken {c = c'} {why = k'} x' r' e' m' j') =
    let z : Broken k c ≡ Broken k' c' = sym j ∙ j' in
    let p : k ≡ k' = cc in
    let q : c ≡ c' = cc in
    λ i. refused_at (p i) n (q i)
one_verdict (broken {c = c} {why = k} x r e m j) (next x' r' e' m' j' v) =
    let z : Broken k c ≡ Fine = sym j ∙ j' in
    cc
one_verdict {f = f} {u = u} {n = n} {l = l} (next x r e m j v) (misshapen B) = absurd (not_both (section_of f u n) l x r _ _ B e m)
one_verdict (next x r e m j v) (broken {c = c} {why = k} x' r' e' m' j') =
    let z : Fine ≡ Broken k c = sym j ∙ j' in
    cc
one_verdict {f = f} {u = u} {n = n} {l = l} {o' = o'} (next {k = k} {s = s} x r e m j v) (next x' r' e' m' j' v') =
    one_verdict v (subst (λ (y : List ℕ). Verdict f u k (n + 1) y (stored_line f u (section_of f u n) n (get_or l 0 0) (numbers_of l) s) o') (sym (same_rest (section_of f u n) l x r x' r' e m e' m')) v')
