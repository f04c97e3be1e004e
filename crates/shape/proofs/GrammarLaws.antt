-- The automaton accepts exactly the well-shaped lines, and is alive exactly at the beginnings of these.
use Prim.Native.Nat.{ℕ, zero, suc, ◌-◌, ◌≤◌, ◌<◌, zero-le}
use mathlib.Core.Path.{◌≡◌, refl, sym, ap, subst, ◌∙◌}
use mathlib.Core.Bool.{Bool, true, false, cond}
use mathlib.Core.List.{List, [], ◌∷◌, ◌++◌}
use native.Mathlib.Omega.{arith}
use lib.Dec.{ltb, eqb}
use lib.ListN.{length}
use borrow.Author.Tests.{ne_eqb, lt-ltb, le-ltb, eqb-true, eqb-false, ltb-false}
use Rattle.shape.specs.Shape.{next_state, begin_line, after_field, in_number, begin_number}
use Rattle.shape.specs.Grammar.{Digits, Numeral, Fields, Line, CouldBegin, run, Digits.none, Digits.more, Numeral.nought, Numeral.long, Fields.end, Fields.field, Letter.is_C, Letter.is_X, Letter.is_F, Letter.is_U, Letter.is_T, Line.line}
use Rattle.shape.specs.declared.shape.Section.{Section}
use Rattle.shape.specs.declared.shape.Section.TheVariants.{Catalogue, Options, Orderings, Trailer}
use Rattle.shape.specs.declared.shape.State.{State}
use Rattle.shape.specs.declared.shape.State.TheVariants.{Start, Gap, First, Digit, Done, Dead}

-- what is still to come in a state
abbrev Means : Section → State → List ℕ → Type 0
Means sec Start l = Line sec l
Means sec (Gap k) l = Fields k l
Means sec (First k) l = (a : List ℕ) × (r : List ℕ) × Numeral a × Fields k r × (l ≡ a ++ r)
Means sec (Digit k m) l = (d : List ℕ) × (r : List ℕ) × Digits d × (length d ≤ m) × Fields k r × (l ≡ d ++ r)
Means sec Done l = l ≡ []
Means sec Dead l = ⊥

gap_zero : (b : ℕ) → after_field 0 b ≡ cond (eqb b 10) Done Dead
gap_zero b = refl

gap_suc : (k b : ℕ) → after_field (suc k) b ≡ cond (eqb b 32) (First k) Dead
gap_suc k b =
    let e : suc k - 1 ≡ k = omega arith in
    simp (ne_eqb (suc k) 0 (omega arith), e)

-- a step back
fields_back : (sec : Section) (k b : ℕ) (l : List ℕ) → Means sec (after_field k b) l → Fields k (b ∷ l)
fields_back sec zero b l h = at_end (eqb b 10) refl h
  where
    at_end : (t : Bool) → eqb b 10 ≡ t → Means sec (cond t Done Dead) l → Fields 0 (b ∷ l)
    at_end true e m = subst (λ (x : ℕ). Fields 0 (x ∷ l)) (sym (eqb-true b 10 e)) (subst (λ (x : List ℕ). Fields 0 (10 ∷ x)) (sym m) end)
    at_end false e m = absurd m
fields_back sec (suc k) b l h = at_space (eqb b 32) refl (subst (λ (x : State). Means sec x l) (gap_suc k b) h)
  where
    at_space : (t : Bool) → eqb b 32 ≡ t → Means sec (cond t (First k) Dead) l → Fields (suc k) (b ∷ l)
    at_space true e m = subst (λ (x : ℕ). Fields (suc k) (x ∷ l)) (sym (eqb-true b 32 e)) (field m.2 m.3 m.4)
    at_space false e m = absurd m

begin_back : (sec : Section) (b : ℕ) (l : List ℕ) → Means sec (begin_line sec b) l → Line sec (b ∷ l)
begin_back Catalogue b l h = c (eqb b 67) refl h
  where
    x : (t : Bool) → eqb b 88 ≡ t → Means Catalogue (cond t (Gap 2) Dead) l → Line Catalogue (b ∷ l)
    x true e m = subst (λ (y : ℕ). Line Catalogue (y ∷ l)) (sym (eqb-true b 88 e)) (line is_X m)
    x false e m = absurd m

    c : (t : Bool) → eqb b 67 ≡ t → Means Catalogue (cond t (Gap 2) (cond (eqb b 88) (Gap 2) Dead)) l → Line Catalogue (b ∷ l)
    c true e m = subst (λ (y : ℕ). Line Catalogue (y ∷ l)) (sym (eqb-true b 67 e)) (line is_C m)
    c false e m = x (eqb b 88) refl m
begin_back Options b l h = c (eqb b 70) refl h
  where
    c : (t : Bool) → eqb b 70 ≡ t → Means Options (cond t (Gap 2) Dead) l → Line Options (b ∷ l)
    c true e m = subst (λ (y : ℕ). Line Options (y ∷ l)) (sym (eqb-true b 70 e)) (line is_F m)
    c false e m = absurd m
begin_back Orderings b l h = c (eqb b 85) refl h
  where
    c : (t : Bool) → eqb b 85 ≡ t → Means Orderings (cond t (Gap 3) Dead) l → Line Orderings (b ∷ l)
    c true e m = subst (λ (y : ℕ). Line Orderings (y ∷ l)) (sym (eqb-true b 85 e)) (line is_U m)
    c false e m = absurd m
begin_back Trailer b l h = c (eqb b 84) refl h
  where
    c : (t : Bool) → eqb b 84 ≡ t → Means Trailer (cond t (Gap 3) Dead) l → Line Trailer (b ∷ l)
    c true e m = subst (λ (y : ℕ). Line Trailer (y ∷ l)) (sym (eqb-true b 84 e)) (line is_T m)
    c false e m = absurd m

first_back : (sec : Section) (k b : ℕ) (l : List ℕ) → Means sec (begin_number k b) l → Means sec (First k) (b ∷ l)
first_back sec k b l h = z (eqb b 48) refl h
  where
    hi : (t : Bool) → ltb 57 b ≡ t → (eqb b 48 ≡ false) → (ltb b 48 ≡ false) → Means sec (cond t Dead (Digit k 4)) l → Means sec (First k) (b ∷ l)
    hi true e f g m = absurd m
    hi false e f g m =
        let n = eqb-false b 48 f in
        (b ∷ m.0, m.1, long {b = b} (omega (arith, n, ltb-false b 48 g)) (ltb-false 57 b e) m.2 m.3, m.4, ap (λ (x : List ℕ). b ∷ x) m.5)

    lo : (t : Bool) → ltb b 48 ≡ t → (eqb b 48 ≡ false) → Means sec (cond t Dead (cond (ltb 57 b) Dead (Digit k 4))) l → Means sec (First k) (b ∷ l)
    lo true e f m = absurd m
    lo false e f m = hi (ltb 57 b) refl f e m

    none_left : (d : List ℕ) → length d ≤ 0 → d ≡ []
    none_left [] p = refl
    none_left (x ∷ d) p = absurd (omega arith)

    z : (t : Bool) → eqb b 48 ≡ t → Means sec (cond t (Digit k 0) (cond (ltb b 48) Dead (cond (ltb 57 b) Dead (Digit k 4)))) l → Means sec (First k) (b ∷ l)
    z true e m = (48 ∷ [], m.1, nought, m.4, rw (eqb-true b 48 e, m.5, none_left m.0 m.3))
    z false e m = lo (ltb b 48) refl e m

digit_back : (sec : Section) (k n b : ℕ) (l : List ℕ) → Means sec (in_number k n b) l → Means sec (Digit k n) (b ∷ l)
digit_back sec k n b l h = lo (ltb b 48) refl h
  where
    full : (t : Bool) → eqb n 0 ≡ t → ltb b 48 ≡ false → ltb 57 b ≡ false → Means sec (cond t Dead (Digit k (n - 1))) l → Means sec (Digit k n) (b ∷ l)
    full true e f g m = absurd m
    full false e f g m =
        let p = eqb-false n 0 e in
        (b ∷ m.0, m.1, more (ltb-false b 48 f) (ltb-false 57 b g) m.2, omega (arith, p, m.3), m.4, ap (λ (x : List ℕ). b ∷ x) m.5)

    hi : (t : Bool) → ltb 57 b ≡ t → ltb b 48 ≡ false → Means sec (cond t Dead (cond (eqb n 0) Dead (Digit k (n - 1)))) l → Means sec (Digit k n) (b ∷ l)
    hi true e f m = absurd m
    hi false e f m = full (eqb n 0) refl f e m

    lo : (t : Bool) → ltb b 48 ≡ t → Means sec (cond t (after_field k b) (cond (ltb 57 b) Dead (cond (eqb n 0) Dead (Digit k (n - 1))))) l → Means sec (Digit k n) (b ∷ l)
    lo true e m = ([], b ∷ l, none, zero-le, fields_back sec k b l m, refl)
    lo false e m = hi (ltb 57 b) refl e m

back : (sec : Section) (st : State) (b : ℕ) (l : List ℕ) → Means sec (next_state sec st b) l → Means sec st (b ∷ l)
back sec Start b l h = begin_back sec b l h
back sec (Gap k) b l h = fields_back sec k b l h
back sec (First k) b l h = first_back sec k b l h
back sec (Digit k m) b l h = digit_back sec k m b l h
back sec Done b l h = absurd h
back sec Dead b l h = absurd h

at_end : (sec : Section) (st : State) → st ≡ Done → Means sec st []
at_end sec st e = subst (λ (x : State). Means sec x []) (sym e) refl

sound : (sec : Section) (st : State) (l : List ℕ) → run sec st l ≡ Done → Means sec st l
sound sec st [] e = at_end sec st e
sound sec st (b ∷ l) e = back sec st b l (sound sec (next_state sec st b) l e)

-- a step forth
fields_forth : (sec : Section) (k b : ℕ) (l : List ℕ) → Fields k (b ∷ l) → Means sec (after_field k b) l
fields_forth sec zero b l end = refl
fields_forth sec (suc k) b l (field {a = a} {r = r} n f e) = subst (λ (x : State). Means sec x l) (sym (gap_suc k 32)) (a, r, n, f, e)

-- the byte after a field is below the digits
gap_low : {k b : ℕ} {l : List ℕ} → Fields k (b ∷ l) → b < 48
gap_low end = omega arith
gap_low (field n f e) = omega arith

begin_forth : (sec : Section) (b : ℕ) (l : List ℕ) → Line sec (b ∷ l) → Means sec (begin_line sec b) l
begin_forth sec b l (line is_C f) = f
begin_forth sec b l (line is_X f) = f
begin_forth sec b l (line is_F f) = f
begin_forth sec b l (line is_U f) = f
begin_forth sec b l (line is_T f) = f

head_of : {a b : ℕ} {l r : List ℕ} → a ∷ l ≡ b ∷ r → a ≡ b
head_of e = cc

tail_of : {a b : ℕ} {l r : List ℕ} → a ∷ l ≡ b ∷ r → l ≡ r
tail_of e = cc

first_forth : (sec : Section) (k b : ℕ) (l a r : List ℕ) → Numeral a → Fields k r → (b ∷ l) ≡ a ++ r → Means sec (begin_number k b) l
first_forth sec k b l a r nought f e = rw (head_of e) ([], r, none, zero-le, f, tail_of e)
first_forth sec k b l a r (long {b = x} {bs = xs} lo hi d n) f e =
    let p : b ≡ x = head_of e in
    rw (ne_eqb b 48 (omega arith), le-ltb b 48 (omega arith), le-ltb 57 b (omega arith)) (xs, r, d, n, f, tail_of e)

digit_forth : (sec : Section) (k m b : ℕ) (l d r : List ℕ) → Digits d → length d ≤ m → Fields k r → (b ∷ l) ≡ d ++ r → Means sec (in_number k m b) l
digit_forth sec k m b l d r none n f e =
    let g : Fields k (b ∷ l) = subst (λ (x : List ℕ). Fields k x) (sym e) f in
    rw (lt-ltb b 48 (gap_low g)) (fields_forth sec k b l g)
digit_forth sec k m b l d r (more {b = x} {bs = xs} lo hi ds) n f e =
    let p : b ≡ x = head_of e in
    rw (le-ltb b 48 (omega arith), le-ltb 57 b (omega arith), ne_eqb m 0 (omega arith)) (xs, r, ds, omega arith, f, tail_of e)

forth : (sec : Section) (st : State) (b : ℕ) (l : List ℕ) → Means sec st (b ∷ l) → Means sec (next_state sec st b) l
forth sec Start b l h = begin_forth sec b l h
forth sec (Gap k) b l h = fields_forth sec k b l h
forth sec (First k) b l h = first_forth sec k b l h.0 h.1 h.2 h.3 h.4
forth sec (Digit k m) b l h = digit_forth sec k m b l h.0 h.1 h.2 h.3 h.4 h.5
forth sec Done b l h = absurd (no_cons h)
  where
    no_cons : {b : ℕ} {l : List ℕ} → b ∷ l ≡ [] → ⊥
    no_cons e = let z : ◌≡◌ {A = ℕ} 0 1 = cc in omega arith
forth sec Dead b l h = absurd h

not_empty : {k : ℕ} (d r : List ℕ) → Fields k r → [] ≡ d ++ r → ⊥
not_empty [] r end e = let z : ◌≡◌ {A = ℕ} 0 1 = cc in omega arith
not_empty [] r (field n f p) e = let z : ◌≡◌ {A = ℕ} 0 1 = cc in omega arith
not_empty (x ∷ d) r f e = let z : ◌≡◌ {A = ℕ} 0 1 = cc in omega arith

no_fields : {k : ℕ} (l : List ℕ) → l ≡ [] → Fields k l → ⊥
no_fields l e f = not_empty [] l f (sym e)

finished : (sec : Section) (st : State) → Means sec st [] → st ≡ Done
finished sec Start h = absurd (none_starts sec [] refl h)
  where
    none_starts : (sec : Section) (l : List ℕ) → l ≡ [] → Line sec l → ⊥
    none_starts sec l e (line p f) = let z : ◌≡◌ {A = ℕ} 0 1 = cc in omega arith
finished sec (Gap k) h = absurd (no_fields [] refl h)
finished sec (First k) h = absurd (not_empty h.0 h.1 h.3 h.4)
finished sec (Digit k m) h = absurd (not_empty h.0 h.1 h.4 h.5)
finished sec Done h = refl
finished sec Dead h = absurd h

complete : (sec : Section) (st : State) (l : List ℕ) → Means sec st l → run sec st l ≡ Done
complete sec st [] h = finished sec st h
complete sec st (b ∷ l) h = complete sec (next_state sec st b) l (forth sec st b l h)

-- the automaton accepts exactly the well-shaped lines
pub accepts : (sec : Section) (l : List ℕ) → run sec Start l ≡ Done → Line sec l
accepts sec l e = sound sec Start l e

pub accepted : (sec : Section) (l : List ℕ) → Line sec l → run sec Start l ≡ Done
accepted sec l h = complete sec Start l h

pub run_append : (sec : Section) (st : State) (p q : List ℕ) → run sec st (p ++ q) ≡ run sec (run sec st p) q
run_append sec st [] q = refl
run_append sec st (b ∷ p) q = run_append sec (next_state sec st b) p q

pub run_dead : (sec : Section) (l : List ℕ) → run sec Dead l ≡ Dead
run_dead sec [] = refl
run_dead sec (b ∷ l) = run_dead sec l

-- a way to end a line from any state that is not dead
end_fields : (k : ℕ) → (r : List ℕ) × Fields k r
end_fields zero = (10 ∷ [], end)
end_fields (suc k) = (32 ∷ 48 ∷ (end_fields k).0, field nought (end_fields k).1 refl)

start_line : (sec : Section) → (q : List ℕ) × Line sec q
start_line Catalogue = (67 ∷ (end_fields 2).0, line is_C (end_fields 2).1)
start_line Options = (70 ∷ (end_fields 2).0, line is_F (end_fields 2).1)
start_line Orderings = (85 ∷ (end_fields 3).0, line is_U (end_fields 3).1)
start_line Trailer = (84 ∷ (end_fields 3).0, line is_T (end_fields 3).1)

ways : (sec : Section) (st : State) → (st ≡ Dead → ⊥) → (q : List ℕ) × Means sec st q
ways sec Start h = start_line sec
ways sec (Gap k) h = end_fields k
ways sec (First k) h = (48 ∷ (end_fields k).0, (48 ∷ [], (end_fields k).0, nought, (end_fields k).1, refl))
ways sec (Digit k m) h = ((end_fields k).0, ([], (end_fields k).0, none, zero-le, (end_fields k).1, refl))
ways sec Done h = ([], refl)
ways sec Dead h = absurd (h refl)

-- the automaton is alive after a prefix exactly if the prefix is viable
pub alive_could_begin : (sec : Section) (p : List ℕ) → (run sec Start p ≡ Dead → ⊥) → CouldBegin sec p
alive_could_begin sec p h =
    let w = ways sec (run sec Start p) h in
    (w.0, accepts sec (p ++ w.0) (run_append sec Start p w.0 ∙ complete sec (run sec Start p) w.0 w.1))

pub could_begin_alive : (sec : Section) (p : List ℕ) → CouldBegin sec p → run sec Start p ≡ Dead → ⊥
could_begin_alive sec p v e =
    let a : run sec (run sec Start p) v.0 ≡ Done = sym (run_append sec Start p v.0) ∙ accepted sec (p ++ v.0) v.1 in
    let b : Dead ≡ Done = sym (run_dead sec v.0) ∙ subst (λ (x : State). run sec x v.0 ≡ Done) e a in
    let z : ◌≡◌ {A = ℕ} 0 1 = cc in omega arith
