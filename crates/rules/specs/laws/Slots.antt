-- Tests and lists over the slots below a number.
use Rattle.std.specs.Prelude.{◌≡◌, refl, Bool, true, false, ◌||◌, ◌⊎◌, ℕ, zero, suc, ◌<◌, length, get_or, T}
use Rattle.std.proofs.Common.{sym, subst, ap, inl, inr, le_of_suc-le-suc, eq-or-lt_of_le, arith}
use mathlib.Core.List.Memᴰ
use mathlib.Core.List.{Memᴰ}
use Rattle.rules.specs.Slots.{some_below, keep_if, slots, list_of}
use Rattle.rules.specs.laws.Tests.{or_l, or_r, or_e}

pub some_in : (n : ℕ) (p : ℕ → Bool) (i : ℕ) → i < n → T (p i) → T (some_below n p)
unfolding some_below
some_in zero p i h t = absurd (omega arith)
some_in (suc n) p i h t = go (λ l. some_in n p i l t) (eq-or-lt_of_le (le_of_suc-le-suc h))
  where
    go : (i < n → T (some_below n p)) → (i ≡ n) ⊎ (i < n) → T (some_below n p || p n)
    go f (inl e) = or_r (some_below n p) _ (subst (λ z. T (p z)) e t)
    go f (inr l) = or_l (some_below n p) _ (f l)

pub some_out : (n : ℕ) (p : ℕ → Bool) → T (some_below n p) → (i : ℕ) × (i < n) × T (p i)
unfolding some_below
some_out zero p t = absurd t
some_out (suc n) p t = go (some_out n p) (or_e (some_below n p) _ t)
  where
    go : (T (some_below n p) → (i : ℕ) × (i < n) × T (p i)) → T (some_below n p) ⊎ T (p n) → (i : ℕ) × (i < suc n) × T (p i)
    go f (inl u) = let (i, l, w) = f u in (i, omega arith, w)
    go f (inr u) = (n, omega arith, u)

pub slots_in : (n : ℕ) (p : ℕ → Bool) (i : ℕ) → i < n → T (p i) → Memᴰ i (slots n p)
unfolding slots
slots_in zero p i h t = absurd (omega arith)
slots_in (suc n) p i h t = go (p n) refl (λ l. slots_in n p i l t) (eq-or-lt_of_le (le_of_suc-le-suc h))
  where
    go : (b : Bool) → p n ≡ b → (i < n → Memᴰ i (slots n p)) → (i ≡ n) ⊎ (i < n) → Memᴰ i (keep_if b n (slots n p))
    go true q f (inl e) = Memᴰ.head e
    go true q f (inr l) = Memᴰ.tail (f l)
    go false q f (inl e) = absurd (subst T q (subst (λ z. T (p z)) e t))
    go false q f (inr l) = f l

pub slots_out : (n : ℕ) (p : ℕ → Bool) (i : ℕ) → Memᴰ i (slots n p) → (i < n) × T (p i)
unfolding slots
slots_out zero p i m = elim m [ ]
slots_out (suc n) p i m = go (p n) refl (slots_out n p i) m
  where
    go : (b : Bool) → p n ≡ b → (Memᴰ i (slots n p) → (i < n) × T (p i)) → Memᴰ i (keep_if b n (slots n p)) → (i < suc n) × T (p i)
    go true q f m' = at (Memᴰ.cases_cons m')
      where
        at : (i ≡ n) ⊎ Memᴰ i (slots n p) → (i < suc n) × T (p i)
        at (inl e) = (omega arith, subst (λ z. T (p z)) (sym e) (subst T (sym q) tt))
        at (inr k) = let (l, t) = f k in (omega arith, t)
    go false q f m' = let (l, t) = f m' in (omega arith, t)

pub length_list_of {ℓ} : {A : Type ℓ} (n : ℕ) (g : ℕ → A) → length (list_of n g) ≡ n
unfolding list_of
length_list_of zero g = refl
length_list_of (suc n) g = ap suc (length_list_of n (λ i. g (suc i)))

pub getD_list_of {ℓ} : {A : Type ℓ} (n : ℕ) (g : ℕ → A) (x : A) (i : ℕ) → i < n → get_or (list_of n g) i x ≡ g i
unfolding list_of
getD_list_of zero g x i h = absurd (omega arith)
getD_list_of (suc n) g x zero h = refl
getD_list_of (suc n) g x (suc i) h = getD_list_of n (λ j. g (suc j)) x i (le_of_suc-le-suc h)

pub list_of_same {ℓ} : {A : Type ℓ} (n : ℕ) (f g : ℕ → A) → ((i : ℕ) → i < n → f i ≡ g i) → list_of n f ≡ list_of n g
unfolding list_of
list_of_same zero f g h = refl
list_of_same (suc n) f g h = let a = h 0 (omega arith) in let b = list_of_same n (λ i. f (suc i)) (λ i. g (suc i)) (λ i l. h (suc i) (omega arith)) in cc
