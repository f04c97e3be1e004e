-- A list without one of its elements.
use Rattle.std.specs.Prelude.{◌≡◌, Bool, true, false, ◌⊎◌, ℕ, suc, ◌≤◌, ◌<◌, length, T, eqb}
use Rattle.std.proofs.Common.{sym, subst, ◌∙◌, inl, inr, arith, eqb→eq}
use mathlib.Core.List.Memᴰ
use mathlib.Core.List.{List, [], ◌∷◌, Memᴰ}
use Rattle.std.proofs.Math.Dec.{eqb_refl}
use Rattle.rules.specs.Sequence.{cons_unless, without}

pub without_in : (x : ℕ) (l : List ℕ) (y : ℕ) → Memᴰ y l → (x ≡ y → ⊥) → Memᴰ y (without x l)
unfolding without
without_in x [] y x3 n = elim x3 [ ]
without_in x (z ∷ l) y (Memᴰ.head e) n = go (eqb x z) (λ t. eqb→eq x z t)
  where
    go : (b : Bool) → (T b → x ≡ z) → Memᴰ y (cons_unless b z (without x l))
    go true f = absurd (n (f tt ∙ sym e))
    go false f = Memᴰ.head e
without_in x (z ∷ l) y (Memᴰ.tail m) n = go (eqb x z) (without_in x l y m n)
  where
    go : (b : Bool) → Memᴰ y (without x l) → Memᴰ y (cons_unless b z (without x l))
    go true k = k
    go false k = Memᴰ.tail k

pub without_out : (x : ℕ) (l : List ℕ) (y : ℕ) → Memᴰ y (without x l) → Memᴰ y l × (x ≡ y → ⊥)
unfolding without
without_out x [] y m = elim m [ ]
without_out x (z ∷ l) y m = go (eqb x z) (λ e. subst (λ w. T (eqb x w)) e (eqb_refl x)) (without_out x l y) m
  where
    go : (b : Bool) → (x ≡ z → T b) → (Memᴰ y (without x l) → Memᴰ y l × (x ≡ y → ⊥)) → Memᴰ y (cons_unless b z (without x l)) → Memᴰ y (z ∷ l) × (x ≡ y → ⊥)
    go true f r k = let (a, b) = r k in (Memᴰ.tail a, b)
    go false f r k = at (Memᴰ.cases_cons k)
      where
        at : (y ≡ z) ⊎ Memᴰ y (without x l) → Memᴰ y (z ∷ l) × (x ≡ y → ⊥)
        at (inl e) = (Memᴰ.head e, λ h. f (h ∙ e))
        at (inr h) = let (a, b) = r h in (Memᴰ.tail a, b)

without_le : (x : ℕ) (l : List ℕ) → length (without x l) ≤ length l
unfolding without
without_le x [] = omega arith
without_le x (z ∷ l) = go (eqb x z) (without_le x l)
  where
    go : (b : Bool) → length (without x l) ≤ length l → length (cons_unless b z (without x l)) ≤ suc (length l)
    go true h = omega arith
    go false h = omega arith

pub without_lt : (x : ℕ) (l : List ℕ) → Memᴰ x l → length (without x l) < length l
unfolding without
without_lt x [] x'' = elim x'' [ ]
without_lt x (z ∷ l) (Memᴰ.head e) = go (eqb x z) (subst (λ w. T (eqb x w)) e (eqb_refl x)) (without_le x l)
  where
    go : (b : Bool) → T b → length (without x l) ≤ length l → length (cons_unless b z (without x l)) < suc (length l)
    go true t h = omega arith
    go false t h = absurd t
without_lt x (z ∷ l) (Memᴰ.tail m) = go (eqb x z) (without_lt x l m)
  where
    go : (b : Bool) → length (without x l) < length l → length (cons_unless b z (without x l)) < suc (length l)
    go true h = omega arith
    go false h = omega arith
