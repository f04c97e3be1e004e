-- The lines of a clean text, one by one.
use Prim.Native.Nat.{ℕ, suc, ◌+◌, ◌-◌, ◌<◌}
use mathlib.Core.Path.{◌≡◌, refl, sym, ap, ◌∙◌}
use mathlib.Core.Bool.{Bool, true, false, cond}
use mathlib.Core.List.{List, [], ◌∷◌, ◌++◌}
use native.Mathlib.Omega.{arith}
use native.Mathlib.Numerals.{add-one}
use lib.Dec.{eqb}
use lib.ListN.{length, take, drop, get_or, length-drop}
use lib.Seq.{drop-cons, take-suc}
use borrow.Author.Tests.{eq-eqb, ne_eqb}
use Rattle.shape.specs.Shape.{next_state}
use Rattle.shape.specs.Grammar.{run}
use Rattle.shape.specs.Scan.{section_of, misshapen_from, step_to}
use Rattle.shape.specs.Line.{line_length}
use Rattle.shape.specs.Trailer.{line_ends, last_line_from}
pub use Rattle.shape.specs.Trailer.{whole_lines}
use Rattle.shape.specs.declared.shape.Section.{Section}
use Rattle.shape.specs.declared.shape.State.{State}
use Rattle.shape.specs.declared.shape.State.TheVariants.{Start, Gap, First, Digit, Done, Dead}
use Rattle.shape.specs.declared.scan.Scanned.TheVariants.{Clean}
use Rattle.shape.proofs.GrammarLaws.{run_dead}
use Rattle.shape.proofs.LineEndLaws.{done_is_line_end, alive_no_line_end, done_nil}

pub zero_one : ◌≡◌ {A = ℕ} 0 1 → ⊥
zero_one e = omega arith

pub record Split (f u n : ℕ) (st : State) (l : List ℕ) (j : ℕ) : Type 0 where
  pub line : List ℕ
  pub rest : List ℕ
  pub whole : l ≡ line ++ rest
  pub shaped : run (section_of f u n) st line ≡ Done
  pub fewer : line_ends rest ≡ j
  pub clean : misshapen_from f u rest (n + 1) 1 Start ≡ Clean

pub split : (f u n : ℕ) (l : List ℕ) (k : ℕ) (st : State) (j : ℕ) → misshapen_from f u l n k st ≡ Clean → line_ends l ≡ suc j → Split f u n st l j
split f u n [] k st j e t = absurd (omega arith)
split f u n (b ∷ l) k st j e t = go (next_state (section_of f u n) st b) refl (λ k s e t. split f u n l k s j e t) e
  where
    on : (s : State) → next_state (section_of f u n) st b ≡ s → (s ≡ Done → ⊥) → (s ≡ Dead → ⊥)
        → ((k : ℕ) (s : State) → misshapen_from f u l n k s ≡ Clean → line_ends l ≡ suc j → Split f u n s l j) → misshapen_from f u l n (k + 1) s ≡ Clean → Split f u n st (b ∷ l) j
    on s q p r ih e =
        let c : eqb b 10 ≡ false = ne_eqb b 10 (alive_no_line_end (section_of f u n) st s b q p r) in
        let z = ih (k + 1) s e (sym (ap (λ (x : Bool). cond x (suc (line_ends l)) (line_ends l)) c) ∙ t) in
        record {
          line = b ∷ z.line;
          rest = z.rest;
          whole = ap (λ (x : List ℕ). b ∷ x) z.whole;
          shaped = ap (λ (x : State). run (section_of f u n) x z.line) q ∙ z.shaped;
          fewer = z.fewer;
          clean = z.clean;
        }

    go : (s : State) → next_state (section_of f u n) st b ≡ s
        → ((k : ℕ) (s : State) → misshapen_from f u l n k s ≡ Clean → line_ends l ≡ suc j → Split f u n s l j) → step_to n k b s (misshapen_from f u l) ≡ Clean → Split f u n st (b ∷ l) j
    go Start q ih e = on Start q (λ x. zero_one (cc)) (λ x. zero_one (cc)) ih e
    go (Gap x) q ih e = on (Gap x) q (λ x. zero_one (cc)) (λ x. zero_one (cc)) ih e
    go (First x) q ih e = on (First x) q (λ x. zero_one (cc)) (λ x. zero_one (cc)) ih e
    go (Digit x y) q ih e = on (Digit x y) q (λ x. zero_one (cc)) (λ x. zero_one (cc)) ih e
    go Done q ih e =
        let c : eqb b 10 ≡ true = eq-eqb b 10 (done_is_line_end (section_of f u n) st b q) in
        let d : suc (line_ends l) ≡ suc j = sym (ap (λ (x : Bool). cond x (suc (line_ends l)) (line_ends l)) c) ∙ t in
        record { line = b ∷ []; rest = l; whole = refl; shaped = q; fewer = omega arith; clean = e }
    go Dead q ih e = absurd (zero_one (cc))

-- the length of a well-shaped line
pub shaped_line_length : (sec : Section) (line rest : List ℕ) (st : State) → (st ≡ Done → ⊥) → run sec st line ≡ Done → line_length (line ++ rest) ≡ length line
shaped_line_length sec [] rest st p e = absurd (p e)
shaped_line_length sec (b ∷ line) rest st p e = go (next_state sec st b) refl (λ s p e. shaped_line_length sec line rest s p e) e
  where
    Goal : Type 0
    Goal = cond (eqb b 10) 1 (1 + line_length (line ++ rest)) ≡ suc (length line)

    on : (s : State) → next_state sec st b ≡ s → (s ≡ Done → ⊥) → (s ≡ Dead → ⊥) → line_length (line ++ rest) ≡ length line → Goal
    on s q p r e = rw (ne_eqb b 10 (alive_no_line_end sec st s b q p r)) (omega arith)

    go : (s : State) → next_state sec st b ≡ s → ((s : State) → (s ≡ Done → ⊥) → run sec s line ≡ Done → line_length (line ++ rest) ≡ length line) → run sec s line ≡ Done → Goal
    go Start q ih e = on Start q (λ x. zero_one (cc)) (λ x. zero_one (cc)) (ih Start (λ x. zero_one (cc)) e)
    go (Gap k) q ih e = on (Gap k) q (λ x. zero_one (cc)) (λ x. zero_one (cc)) (ih (Gap k) (λ x. zero_one (cc)) e)
    go (First k) q ih e = on (First k) q (λ x. zero_one (cc)) (λ x. zero_one (cc)) (ih (First k) (λ x. zero_one (cc)) e)
    go (Digit k m) q ih e = on (Digit k m) q (λ x. zero_one (cc)) (λ x. zero_one (cc)) (ih (Digit k m) (λ x. zero_one (cc)) e)
    go Done q ih e =
        let n : line ≡ [] = done_nil sec line e in
        rw (eq-eqb b 10 (done_is_line_end sec st b q), n)
    go Dead q ih e =
        let r : Dead ≡ Done = sym (run_dead sec line) ∙ e in
        absurd (zero_one (cc))

pub whole_append : (t : Bool) (a b : List ℕ) → whole_lines t (a ++ b) ≡ whole_lines (whole_lines t a) b
whole_append t [] b = refl
whole_append t (x ∷ a) b = whole_append (eqb x 10) a b

pub whole_line : (sec : Section) (line : List ℕ) (st : State) (t : Bool) → (st ≡ Done → ⊥) → run sec st line ≡ Done → whole_lines t line ≡ true
whole_line sec [] st t p e = absurd (p e)
whole_line sec (b ∷ line) st t p e = go (next_state sec st b) refl (λ s p e. whole_line sec line s (eqb b 10) p e) e
  where
    go : (s : State) → next_state sec st b ≡ s → ((s : State) → (s ≡ Done → ⊥) → run sec s line ≡ Done → whole_lines (eqb b 10) line ≡ true) → run sec s line ≡ Done → whole_lines (eqb b 10) line ≡ true
    go Start q ih e = ih Start (λ x. zero_one (cc)) e
    go (Gap k) q ih e = ih (Gap k) (λ x. zero_one (cc)) e
    go (First k) q ih e = ih (First k) (λ x. zero_one (cc)) e
    go (Digit k m) q ih e = ih (Digit k m) (λ x. zero_one (cc)) e
    go Done q ih e =
        let n : line ≡ [] = done_nil sec line e in
        rw (eq-eqb b 10 (done_is_line_end sec st b q), n)
    go Dead q ih e =
        let r : Dead ≡ Done = sym (run_dead sec line) ∙ e in
        absurd (zero_one (cc))

open_end : (l : List ℕ) → line_ends l ≡ 0 → whole_lines false l ≡ true → ⊥
open_end [] t e = zero_one (cc)
open_end (b ∷ l) t e = go (eqb b 10) t e (λ t e. open_end l t e)
  where
    go : (s : Bool) → cond s (suc (line_ends l)) (line_ends l) ≡ 0 → whole_lines s l ≡ true → (line_ends l ≡ 0 → whole_lines false l ≡ true → ⊥) → ⊥
    go true t e ih = omega arith
    go false t e ih = ih t e

pub whole_none : (l : List ℕ) → line_ends l ≡ 0 → whole_lines true l ≡ true → l ≡ []
whole_none [] t e = refl
whole_none (b ∷ l) t e = go (eqb b 10) t e
  where
    go : (s : Bool) → cond s (suc (line_ends l)) (line_ends l) ≡ 0 → whole_lines s l ≡ true → b ∷ l ≡ []
    go true t e = absurd (omega arith)
    go false t e = absurd (open_end l t e)

-- the last whole line begins after a line end
pub last_line_after_whole : (text l : List ℕ) (i start last n : ℕ) → l ≡ drop i text → whole_lines true (take start text) ≡ true → whole_lines true (take last text) ≡ true
    → whole_lines true (take (last_line_from l i start last n).start text) ≡ true
last_line_after_whole text [] i start last n e p q = q
last_line_after_whole text (b ∷ l) i start last n e p q =
    last_line_after_whole text l (i + 1) (cond (eqb b 10) (i + 1) start) (cond (eqb b 10) start last) (cond (eqb b 10) (n + 1) n) tl (s (eqb b 10) refl) (m (eqb b 10))
  where
    lt : i < length text
    lt =
        let z : suc (length l) ≡ length text - i = ap length e ∙ length-drop i text in
        omega arith

    whole : b ∷ l ≡ get_or text i 0 ∷ drop (suc i) text
    whole = e ∙ drop-cons text i 0 lt

    tl : l ≡ drop (i + 1) text
    tl = rw add-one (tail whole)
      where
        tail : {x y : ℕ} {a c : List ℕ} → x ∷ a ≡ y ∷ c → a ≡ c
        tail e = cc

    hd : b ≡ get_or text i 0
    hd = head whole
      where
        head : {x y : ℕ} {a c : List ℕ} → x ∷ a ≡ y ∷ c → x ≡ y
        head e = cc

    s : (t : Bool) → eqb b 10 ≡ t → whole_lines true (take (cond t (i + 1) start) text) ≡ true
    s true c = rw (add-one, take-suc text i 0 lt, whole_append true (take i text) (get_or text i 0 ∷ []), ← hd) c
    s false c = p

    m : (t : Bool) → whole_lines true (take (cond t start last) text) ≡ true
    m true = p
    m false = q
