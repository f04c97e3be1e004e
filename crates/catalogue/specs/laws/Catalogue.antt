-- One pair, one line more: how the rows come to say what the catalogue says.
use Rattle.std.specs.Prelude.{◌≡◌, refl, Bool, true, false, ◌&&◌, ◌||◌, cond, List, [], ◌∷◌, ◌++◌, ℕ, zero, suc, ◌+◌, ◌≤◌, ◌<◌, length, get_or, set, replicate, T, eqb}
use Rattle.std.proofs.Common.{sym, subst, ap, ◌∙◌, arith, add-one, eq-eqb, ne_eqb, get_or-set_same, get_or-set_other}
use Rattle.std.proofs.Math.Decide.{ℕ_discrete}
use Rattle.rules.specs.Slots.{list_of, some_of}
use Rattle.rules.specs.Lines.{CatalogueLine, catalogue_puts_before, puts_before}
use Rattle.rows.specs.Bits.{has, with}
use Rattle.rows.specs.Sets.{cell}
use Rattle.rows.specs.laws.Bits.{has_none, has_with_slot}
use Rattle.slots.specs.Slots.{SlotOf, TableOf}
use Rattle.rules.specs.Lines.{C, X}
use Rattle.catalogue.specs.Catalogue.{line_of, catalogue_of, WithPair, WithLine, SaysBy}

or_no : (a b : Bool) → b ≡ false → a ≡ (a || b)
or_no true b e = refl
or_no false b e = sym e

and_no : (a b : Bool) → b ≡ false → (a && b) ≡ false
and_no true b e = e
and_no false b e = refl

no_and : (a b : Bool) → a ≡ false → (a && b) ≡ false
no_and true b e = absurd (subst T e tt)
no_and false b e = refl

pub first_missing : (n : ℕ) (t : List ℕ) (i j : ℕ) → n ≤ i → WithPair n t i j t
first_missing n t i j h = record { at = λ p q lp lq. or_no (cell t p q) _ (no_and _ (eqb j q) (ne_eqb i p (λ e. omega arith))) }

pub second_missing : (n : ℕ) (t : List ℕ) (i j : ℕ) → n ≤ j → WithPair n t i j t
second_missing n t i j h = record { at = λ p q lp lq. or_no (cell t p q) _ (and_no (eqb i p) _ (ne_eqb j q (λ e. omega arith))) }

pub pair_put : (n : ℕ) (t : List ℕ) (i j : ℕ) {x : ℕ} → i < length t → x ≡ with (get_or t i 0) j → WithPair n t i j (set t i x)
pair_put n t i j {x} h e = record { at = λ p q lp lq. go p q (ℕ_discrete p i) }
  where
    go : (p q : ℕ) → Dec (p ≡ i) → cell (set t i x) p q ≡ (cell t p q || (eqb i p && eqb j q))
    go p q (yes k) = rw (k, get_or-set_same t i x 0 h, e, has_with_slot (get_or t i 0) j q, eq-eqb i i refl) refl
    go p q (no k) = rw (get_or-set_other t i p x 0 k) (or_no (cell t p q) _ (no_and _ (eqb j q) (ne_eqb i p (λ z. k (sym z)))))

pub exclusion_said : (n : ℕ) (t : List ℕ) (letter i j : ℕ) {u r : List ℕ} → WithPair n t i j u → WithPair n u j i r → letter ≡ 88 → WithLine n t (line_of letter i j) r
exclusion_said n t letter i j {u} {r} w z e =
    subst (λ b. WithLine n t (cond b (X i j) (C i j)) r) (sym (eq-eqb letter 88 e)) (record { at = λ p q lp lq. z.at p q lp lq ∙ rw (w.at p q lp lq) (go (cell t p q) (eqb i p && eqb j q) (eqb j p) (eqb i q)) })
  where
    go : (a b c d : Bool) → ((a || b) || (c && d)) ≡ (a || (b || (d && c)))
    go true b c d = refl
    go false true c d = refl
    go false false true true = refl
    go false false true false = refl
    go false false false true = refl
    go false false false false = refl

pub precedence_said : (n : ℕ) (t : List ℕ) (letter i j : ℕ) {u : List ℕ} → WithPair n t i j u → (letter ≡ 88 → ⊥) → WithLine n t (line_of letter i j) u
precedence_said n t letter i j {u} w e = subst (λ b. WithLine n t (cond b (X i j) (C i j)) u) (sym (ne_eqb letter 88 e)) (record { at = w.at })

-- A line says of two slots what it says of their options.
same_said : {n : ℕ} {numbers : List ℕ} (letter : ℕ) {x y i j : ℕ} → SlotOf n numbers x i → SlotOf n numbers y j
    → (p q : ℕ) → p < n → q < n → puts_before p q (line_of letter i j) ≡ puts_before (get_or numbers p 0) (get_or numbers q 0) (line_of letter x y)
same_said {n} {numbers} letter {x} {y} {i} {j} sx sy p q lp lq = go (eqb letter 88)
  where
    go : (b : Bool) → puts_before p q (cond b (X i j) (C i j)) ≡ puts_before (get_or numbers p 0) (get_or numbers q 0) (cond b (X x y) (C x y))
    go true = rw (sx.at p lp, sx.at q lq, sy.at p lp, sy.at q lq) refl
    go false = rw (sx.at p lp, sy.at q lq) refl

same_row : (k p z : ℕ) → get_or (replicate k z) p z ≡ z
same_row zero p z = refl
same_row (suc k) zero z = refl
same_row (suc k) (suc p) z = same_row k p z

-- ---- the lines one after another
module _ (p : CatalogueLine → Bool) where
  some_append : (l m : List CatalogueLine) → some_of p (l ++ m) ≡ (some_of p l || some_of p m)
  some_append [] m = refl
  some_append (x ∷ l) m = rw (some_append l m) (go (p x) (some_of p l) (some_of p m))
    where
      go : (a b c : Bool) → (a || (b || c)) ≡ ((a || b) || c)
      go true b c = refl
      go false b c = refl

list_of_more : {A : Type 0} (n : ℕ) (g : ℕ → A) → list_of (suc n) g ≡ list_of n g ++ (g n ∷ [])
unfolding list_of
list_of_more zero g = refl
list_of_more (suc n) g = ap (λ l. g 0 ∷ l) (list_of_more n (λ i. g (suc i)))

some_one_more : (p : CatalogueLine → Bool) (g : ℕ → CatalogueLine) (k : ℕ) → some_of p (list_of (k + 1) g) ≡ (some_of p (list_of k g) || p (g k))
some_one_more p g k = rw (add-one k, list_of_more k g) (some_append p (list_of k g) (g k ∷ []) ∙ go (some_of p (list_of k g)) (p (g k)))
  where
    go : (a b : Bool) → (a || (b || false)) ≡ (a || b)
    go true b = refl
    go false true = refl
    go false false = refl

pub no_line_said : (n : ℕ) (table letters befores afters : List ℕ) → SaysBy n table letters befores afters 0 (replicate 32 0)
unfolding list_of
no_line_said n table letters befores afters = record { of = λ numbers _. record { at = λ p q _ _. ap (λ z. has z q) (same_row 32 p 0) ∙ has_none q } }

pub line_said : (n : ℕ) (table letters befores afters : List ℕ) {k : ℕ} {t r : List ℕ} → SaysBy n table letters befores afters k t → get_or befores k 0 < 256 → get_or afters k 0 < 256
    → WithLine n t (line_of (get_or letters k 0) (get_or table (get_or befores k 0) 0) (get_or table (get_or afters k 0) 0)) r → SaysBy n table letters befores afters (k + 1) r
line_said n table letters befores afters {k} {t} {r} w bx by s = record { of = λ numbers f. record { at = said numbers f } }
  where
    said : (numbers : List ℕ) → TableOf n numbers table → (p q : ℕ) → p < n → q < n → cell r p q ≡ catalogue_puts_before (catalogue_of letters befores afters (k + 1)) (get_or numbers p 0) (get_or numbers q 0)
    said numbers f p q lp lq =
        s.at p q lp lq ∙ rw ((w.of numbers f).at p q lp lq, same_said (get_or letters k 0) (f.at (get_or befores k 0) bx) (f.at (get_or afters k 0) by) p q lp lq)
        (sym (some_one_more (puts_before (get_or numbers p 0) (get_or numbers q 0)) (λ l. line_of (get_or letters l 0) (get_or befores l 0) (get_or afters l 0)) k))

pub all_lines_said : {n : ℕ} {table letters befores afters : List ℕ} {i k : ℕ} {r : List ℕ} → SaysBy n table letters befores afters i r → i ≡ k → SaysBy n table letters befores afters k r
all_lines_said {n} {table} {letters} {befores} {afters} {i} {k} {r} w e = subst (λ z. SaysBy n table letters befores afters z r) e w
