-- Tests, lists and joins over slots depend only on the slots that they look at.
use Rattle.std.specs.Prelude.{◌≡◌, refl, Bool, true, false, ◌||◌, ℕ, zero, suc, ◌+◌, ◌<◌, T}
use Rattle.std.proofs.Common.{sym, subst, ap, ◌∙◌, arith, add-one}
use mathlib.Core.List.{List, [], ◌∷◌, Memᴰ}
use Rattle.rules.specs.Slots.{some_below, slots}
use Rattle.rules.specs.Joined.{through}
use Rattle.rules.specs.laws.Slots.{some_in}

-- one slot more
pub some_more : (i : ℕ) (p : ℕ → Bool) → some_below (i + 1) p ≡ (some_below i p || p i)
unfolding some_below
some_more i p = rw (add-one i) refl

pub some_same : (n : ℕ) (p q : ℕ → Bool) → ((i : ℕ) → i < n → p i ≡ q i) → some_below n p ≡ some_below n q
unfolding some_below
some_same zero p q h = refl
some_same (suc n) p q h = rw (some_same n p q (λ i l. h i (omega arith)), h n (omega arith)) refl

pub some_none : (n : ℕ) (p : ℕ → Bool) → ((i : ℕ) → i < n → p i ≡ false) → some_below n p ≡ false
unfolding some_below
some_none zero p h = refl
some_none (suc n) p h = rw (some_none n p (λ i l. h i (omega arith)), h n (omega arith)) refl

pub slots_same : (n : ℕ) (p q : ℕ → Bool) → ((i : ℕ) → i < n → p i ≡ q i) → slots n p ≡ slots n q
unfolding slots
slots_same zero p q h = refl
slots_same (suc n) p q h = rw (slots_same n p q (λ i l. h i (omega arith)), h n (omega arith)) refl

pub through_same : (n : ℕ) (b e : ℕ → ℕ → Bool) (cs : List ℕ) → ((c : ℕ) → Memᴰ c cs → c < n) → ((i j : ℕ) → i < n → j < n → b i j ≡ e i j) → (i j : ℕ) → i < n → j < n → through b cs i j ≡ through e cs i j
unfolding through
through_same n b e [] m h i j li lj = h i j li lj
through_same n b e (c ∷ cs) m h i j li lj =
    let lc = m c (Memᴰ.head refl) in
    let m' : (x : ℕ) → Memᴰ x cs → x < n = λ x k. m x (Memᴰ.tail k) in
    rw (through_same n b e cs m' h i j li lj, through_same n b e cs m' h i c li lc, through_same n b e cs m' h c j lc lj) refl

pub some_at : (n : ℕ) (p : ℕ → Bool) (i : ℕ) → i < n → p i ≡ true → some_below n p ≡ true
some_at n p i l e = go (some_below n p) refl (some_in n p i l (subst T (sym e) tt))
  where
    go : (b : Bool) → some_below n p ≡ b → T (some_below n p) → some_below n p ≡ true
    go true q t = q
    go false q t = absurd (subst T q t)

-- An answer that is yes exactly where some slot passes.
pub some_told : (n : ℕ) (p : ℕ → Bool) (b : Bool) → (b ≡ true → (i : ℕ) × (i < n) × (p i ≡ true)) → (b ≡ false → (i : ℕ) → i < n → p i ≡ false) → b ≡ some_below n p
some_told n p true found absent = let (i, l, e) = found refl in sym (some_at n p i l e)
some_told n p false found absent = sym (some_none n p (absent refl))

-- How a loop looks for a slot that passes, and where it ends.
pub some_step : (p : ℕ → Bool) {i : ℕ} {r y w : Bool} → r ≡ some_below i p → y ≡ p i → w ≡ (r || y) → w ≡ some_below (i + 1) p
some_step p {i} {r} {y} {w} e f g = g ∙ rw (e, f) (sym (some_more i p))

pub some_end : (p : ℕ → Bool) {i n : ℕ} {r : Bool} → r ≡ some_below i p → i ≡ n → r ≡ some_below n p
some_end p {i} {n} {r} e f = e ∙ ap (λ k. some_below k p) f
