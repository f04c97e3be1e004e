-- A line ends with its one byte 10; how many lines a text has.
use Prim.Native.Nat.{ℕ, suc, ◌+◌, ◌-◌, ◌≤◌}
use mathlib.Core.Path.{◌≡◌, refl, sym, ap, ◌∙◌}
use mathlib.Core.Logic.{◌⊎◌, inl, inr, ⊎_elim}
use mathlib.Core.Bool.{Bool, true, false, cond}
use mathlib.Core.List.{List, [], ◌∷◌, ◌++◌}
use native.Mathlib.Omega.{arith}
use lib.Dec.{eqb, ltb}
use lib.ListN.{take, drop, take-append-drop}
use borrow.Author.Tests.{eqb-true, eq-eqb, ne_eqb}
use Rattle.shape.specs.Shape.{next_state, begin_line, after_field, in_number, begin_number}
use Rattle.shape.specs.Grammar.{run}
use Rattle.shape.specs.Scan.{section_of, misshapen_from, step_to}
use Rattle.shape.specs.Trailer.{line_ends, last_line_from, last_line, is_done, is_trailer}
use Rattle.shape.specs.declared.shape.Section.{Section}
use Rattle.shape.specs.declared.shape.Section.TheVariants.{Catalogue, Options, Orderings, Trailer}
use Rattle.shape.specs.declared.shape.State.{State}
use Rattle.shape.specs.declared.shape.State.TheVariants.{Start, Gap, First, Digit, Done, Dead}
use Rattle.shape.specs.declared.scan.Scanned.TheVariants.{At}
use Rattle.shape.specs.declared.scan.Place.{Place}
use Rattle.shape.proofs.GrammarLaws.{run_dead}

zero_one : ◌≡◌ {A = ℕ} 0 1 → ⊥
zero_one e = omega arith

-- only a byte 10 ends a line
after_field_done : (k b : ℕ) → after_field k b ≡ Done → b ≡ 10
after_field_done k b e = go (eqb k 0) (eqb b 10) (eqb b 32) refl e
  where
    go : (s t r : Bool) → eqb b 10 ≡ t → cond s (cond t Done Dead) (cond r (First (k - 1)) Dead) ≡ Done → b ≡ 10
    go true true r p q = eqb-true b 10 p
    go true false r p q = absurd (zero_one (cc))
    go false t true p q = absurd (zero_one (cc))
    go false t false p q = absurd (zero_one (cc))

begin_done : (sec : Section) (b : ℕ) → begin_line sec b ≡ Done → ⊥
begin_done Catalogue b e = go (eqb b 67) (eqb b 88) e
  where
    go : (s t : Bool) → cond s (Gap 2) (cond t (Gap 2) Dead) ≡ Done → ⊥
    go true t q = zero_one (cc)
    go false true q = zero_one (cc)
    go false false q = zero_one (cc)
begin_done Options b e = go (eqb b 70) e
  where
    go : (s : Bool) → cond s (Gap 2) Dead ≡ Done → ⊥
    go true q = zero_one (cc)
    go false q = zero_one (cc)
begin_done Orderings b e = go (eqb b 85) e
  where
    go : (s : Bool) → cond s (Gap 3) Dead ≡ Done → ⊥
    go true q = zero_one (cc)
    go false q = zero_one (cc)
begin_done Trailer b e = go (eqb b 84) e
  where
    go : (s : Bool) → cond s (Gap 3) Dead ≡ Done → ⊥
    go true q = zero_one (cc)
    go false q = zero_one (cc)

first_done : (k b : ℕ) → begin_number k b ≡ Done → ⊥
first_done k b e = go (eqb b 48) (ltb b 48) (ltb 57 b) e
  where
    go : (s t r : Bool) → cond s (Digit k 0) (cond t Dead (cond r Dead (Digit k 4))) ≡ Done → ⊥
    go true t r q = zero_one (cc)
    go false true r q = zero_one (cc)
    go false false true q = zero_one (cc)
    go false false false q = zero_one (cc)

digit_done : (k m b : ℕ) → in_number k m b ≡ Done → b ≡ 10
digit_done k m b e = go (ltb b 48) (ltb 57 b) (eqb m 0) e
  where
    go : (s t r : Bool) → cond s (after_field k b) (cond t Dead (cond r Dead (Digit k (m - 1)))) ≡ Done → b ≡ 10
    go true t r q = after_field_done k b q
    go false true r q = absurd (zero_one (cc))
    go false false true q = absurd (zero_one (cc))
    go false false false q = absurd (zero_one (cc))

pub done_is_line_end : (sec : Section) (st : State) (b : ℕ) → next_state sec st b ≡ Done → b ≡ 10
done_is_line_end sec Start b e = absurd (begin_done sec b e)
done_is_line_end sec (Gap k) b e = after_field_done k b e
done_is_line_end sec (First k) b e = absurd (first_done k b e)
done_is_line_end sec (Digit k m) b e = digit_done k m b e
done_is_line_end sec Done b e = absurd (zero_one (cc))
done_is_line_end sec Dead b e = absurd (zero_one (cc))

-- a byte 10 ends a line, or is out of place
gap_ten : (k : ℕ) → (after_field k 10 ≡ Done) ⊎ (after_field k 10 ≡ Dead)
gap_ten k = go (eqb k 0)
  where
    go : (s : Bool) → (cond s Done Dead ≡ Done) ⊎ (cond s Done Dead ≡ Dead)
    go true = inl refl
    go false = inr refl

pub ten_ends : (sec : Section) (st : State) → (next_state sec st 10 ≡ Done) ⊎ (next_state sec st 10 ≡ Dead)
ten_ends Catalogue Start = inr refl
ten_ends Options Start = inr refl
ten_ends Orderings Start = inr refl
ten_ends Trailer Start = inr refl
ten_ends sec (Gap k) = gap_ten k
ten_ends sec (First k) = inr refl
ten_ends sec (Digit k m) = gap_ten k
ten_ends sec Done = inr refl
ten_ends sec Dead = inr refl

-- the place of a misshapen line is among the lines
pub scan_line : (f u : ℕ) (l : List ℕ) (n k : ℕ) (st : State) (p : Place) (y : ℕ) → misshapen_from f u l n k st ≡ At p y → (n ≤ p.line) × (p.line ≤ n + line_ends l)
scan_line f u [] n k st p y e = absurd (zero_one (cc))
scan_line f u (b ∷ l) n k st p y e = go (next_state (section_of f u n) st b) refl (λ n k st e. scan_line f u l n k st p y e) e
  where
    more : (t : Bool) → line_ends l ≤ cond t (suc (line_ends l)) (line_ends l)
    more true = omega arith
    more false = omega arith

    Bound : ℕ → Type 0
    Bound m = (m ≤ p.line) × (p.line ≤ m + line_ends l)

    Goal : Type 0
    Goal = (n ≤ p.line) × (p.line ≤ n + cond (eqb b 10) (suc (line_ends l)) (line_ends l))

    stay : Bound n → Goal
    stay h = (h.0, omega (arith, h.1, more (eqb b 10)))

    go : (s : State) → next_state (section_of f u n) st b ≡ s → ((n k : ℕ) (st : State) → misshapen_from f u l n k st ≡ At p y → Bound n) → step_to n k b s (misshapen_from f u l) ≡ At p y → Goal
    go Start q ih e = stay (ih n (k + 1) Start e)
    go (Gap x) q ih e = stay (ih n (k + 1) (Gap x) e)
    go (First x) q ih e = stay (ih n (k + 1) (First x) e)
    go (Digit x y) q ih e = stay (ih n (k + 1) (Digit x y) e)
    go Done q ih e =
        let t : eqb b 10 ≡ true = eq-eqb b 10 (done_is_line_end (section_of f u n) st b q) in
        let h = ih (n + 1) 1 Start e in
        rw t (omega (arith, h.0), omega (arith, h.1))
    go Dead q ih e =
        let z : p.line ≡ n = cc in
        (omega arith, omega arith)

pub lines_line_ends : (l : List ℕ) (i start last n : ℕ) → (last_line_from l i start last n).lines ≡ n + line_ends l
lines_line_ends [] i start last n = omega arith
lines_line_ends (b ∷ l) i start last n =
    lines_line_ends l (i + 1) (cond (eqb b 10) (i + 1) start) (cond (eqb b 10) start last) (cond (eqb b 10) (n + 1) n) ∙ go (eqb b 10)
  where
    go : (t : Bool) → cond t (n + 1) n + line_ends l ≡ n + cond t (suc (line_ends l)) (line_ends l)
    go true = omega arith
    go false = refl

pub line_ends_append : (a b : List ℕ) → line_ends (a ++ b) ≡ line_ends a + line_ends b
line_ends_append [] b = omega arith
line_ends_append (x ∷ a) b = go (eqb x 10) (line_ends_append a b)
  where
    go : (t : Bool) → line_ends (a ++ b) ≡ line_ends a + line_ends b → cond t (suc (line_ends (a ++ b))) (line_ends (a ++ b)) ≡ cond t (suc (line_ends a)) (line_ends a) + line_ends b
    go true e = omega arith
    go false e = e

-- what is left after a line's end
pub done_nil : (sec : Section) (l : List ℕ) → run sec Done l ≡ Done → l ≡ []
done_nil sec [] e = refl
done_nil sec (b ∷ l) e =
    let q : Dead ≡ Done = sym (run_dead sec l) ∙ e in
    absurd (zero_one (cc))

pub alive_no_line_end : (sec : Section) (st s : State) (b : ℕ) → next_state sec st b ≡ s → (s ≡ Done → ⊥) → (s ≡ Dead → ⊥) → b ≡ 10 → ⊥
alive_no_line_end sec st s b e p q t =
    ⊎_elim (λ x. p (sym e ∙ ap (λ (y : ℕ). next_state sec st y) t ∙ x)) (λ x. q (sym e ∙ ap (λ (y : ℕ). next_state sec st y) t ∙ x)) (ten_ends sec st)

-- a well-shaped line has one byte 10
pub run_line_ends : (sec : Section) (l : List ℕ) (st : State) → (st ≡ Done → ⊥) → run sec st l ≡ Done → line_ends l ≡ 1
run_line_ends sec [] st p e = absurd (p e)
run_line_ends sec (b ∷ l) st p e = go (next_state sec st b) refl (λ s q e. run_line_ends sec l s q e) e
  where
    on : (s : State) → next_state sec st b ≡ s → (s ≡ Done → ⊥) → (s ≡ Dead → ⊥) → line_ends l ≡ 1 → cond (eqb b 10) (suc (line_ends l)) (line_ends l) ≡ 1
    on s q p r e = rw (ne_eqb b 10 (alive_no_line_end sec st s b q p r)) e

    go : (s : State) → next_state sec st b ≡ s → ((s : State) → (s ≡ Done → ⊥) → run sec s l ≡ Done → line_ends l ≡ 1) → run sec s l ≡ Done → cond (eqb b 10) (suc (line_ends l)) (line_ends l) ≡ 1
    go Start q ih e = on Start q (λ x. zero_one (cc)) (λ x. zero_one (cc)) (ih Start (λ x. zero_one (cc)) e)
    go (Gap k) q ih e = on (Gap k) q (λ x. zero_one (cc)) (λ x. zero_one (cc)) (ih (Gap k) (λ x. zero_one (cc)) e)
    go (First k) q ih e = on (First k) q (λ x. zero_one (cc)) (λ x. zero_one (cc)) (ih (First k) (λ x. zero_one (cc)) e)
    go (Digit k m) q ih e = on (Digit k m) q (λ x. zero_one (cc)) (λ x. zero_one (cc)) (ih (Digit k m) (λ x. zero_one (cc)) e)
    go Done q ih e =
        let n : l ≡ [] = done_nil sec l e in
        rw (eq-eqb b 10 (done_is_line_end sec st b q), n)
    go Dead q ih e =
        let r : Dead ≡ Done = sym (run_dead sec l) ∙ e in
        absurd (zero_one (cc))

pub done_of : (st : State) → is_done st ≡ true → st ≡ Done
done_of Start e = absurd (zero_one (cc))
done_of (Gap k) e = absurd (zero_one (cc))
done_of (First k) e = absurd (zero_one (cc))
done_of (Digit k m) e = absurd (zero_one (cc))
done_of Done e = refl
done_of Dead e = absurd (zero_one (cc))

-- the lines before a well-shaped trailer are all but one
pub trailer_lines : (s : List ℕ) (at n : ℕ) → at ≡ (last_line s).start → n ≡ (last_line s).lines → is_trailer (drop at s) ≡ true → n ≡ suc (line_ends (take at s))
trailer_lines s at n ea en t =
    let a : line_ends (drop at s) ≡ 1 = run_line_ends Trailer (drop at s) Start (λ x. zero_one (cc)) (done_of _ t) in
    let b = lines_line_ends s 0 0 0 0 in
    let c : line_ends s ≡ line_ends (take at s) + line_ends (drop at s) = ap line_ends (sym (take-append-drop at s)) ∙ line_ends_append (take at s) (drop at s) in
    omega (arith, b)
