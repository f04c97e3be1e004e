-- Sums over slots, rearranged slot by slot.
use Rattle.std.specs.Prelude.{◌≡◌, refl, Bool, true, false, ◌⊎◌, ℕ, zero, suc, ◌+◌, ◌≤◌, ◌<◌, T, eqb}
use Rattle.std.proofs.Common.{subst, ap, inl, inr, le_of_suc-le-suc, eq-or-lt_of_le, add-one, arith, eqb→eq}
use Rattle.std.proofs.Math.Dec.{eqb_refl}
use Rattle.rules.specs.Slots.{sum, pick, over}

pub sum_add : (n : ℕ) (f g : ℕ → ℕ) → sum n (λ i. f i + g i) ≡ sum n f + sum n g
unfolding sum
sum_add zero f g = refl
sum_add (suc n) f g = let h = sum_add n f g in omega arith

pub sum_mono : (n : ℕ) (f g : ℕ → ℕ) → ((i : ℕ) → i < n → f i ≤ g i) → sum n f ≤ sum n g
unfolding sum
sum_mono zero f g h = omega arith
sum_mono (suc n) f g h = let a = sum_mono n f g (λ i l. h i (omega arith)) in let b = h n (omega arith) in omega arith

pub sum_cong : (n : ℕ) (f g : ℕ → ℕ) → ((i : ℕ) → i < n → f i ≡ g i) → sum n f ≡ sum n g
unfolding sum
sum_cong zero f g h = refl
sum_cong (suc n) f g h = let a = sum_cong n f g (λ i l. h i (omega arith)) in let b = h n (omega arith) in omega arith

-- three exclusive tests pick no more than the whole
pub pick3 : (a b c : Bool) (w : ℕ) → (T a → T b → ⊥) → (T a → T c → ⊥) → (T b → T c → ⊥) → pick a w + pick b w + pick c w ≤ w
pick3 true true c w h k l = absurd (h tt tt)
pick3 true false true w h k l = absurd (k tt tt)
pick3 true false false w h k l = omega arith
pick3 false true true w h k l = absurd (l tt tt)
pick3 false true false w h k l = omega arith
pick3 false false true w h k l = omega arith
pick3 false false false w h k l = omega arith

-- two exclusive tests that a third covers
pub pick2 : (a b c : Bool) (w : ℕ) → (T a → T b → ⊥) → (T a → T c) → (T b → T c) → pick a w + pick b w ≤ pick c w
pick2 true true c w h k l = absurd (h tt tt)
pick2 true false true w h k l = omega arith
pick2 true false false w h k l = absurd (k tt)
pick2 false true true w h k l = omega arith
pick2 false true false w h k l = absurd (l tt)
pick2 false false c w h k l = omega arith

pub over3 : (n : ℕ) (w : ℕ → ℕ) (p q r : ℕ → Bool) → ((i : ℕ) → i < n → T (p i) → T (q i) → ⊥) → ((i : ℕ) → i < n → T (p i) → T (r i) → ⊥) → ((i : ℕ) → i < n → T (q i) → T (r i) → ⊥)
    → over n w p + over n w q + over n w r ≤ sum n w
over3 n w p q r h k l = let a = sum_mono n (λ i. pick (p i) (w i) + pick (q i) (w i) + pick (r i) (w i)) w (λ i b. pick3 (p i) (q i) (r i) (w i) (h i b) (k i b) (l i b)) in
    let e = sum_add n (λ i. pick (p i) (w i) + pick (q i) (w i)) (λ i. pick (r i) (w i)) in
    let f = sum_add n (λ i. pick (p i) (w i)) (λ i. pick (q i) (w i)) in omega arith

pub over2 : (n : ℕ) (w : ℕ → ℕ) (p q r : ℕ → Bool) → ((i : ℕ) → i < n → T (p i) → T (q i) → ⊥) → ((i : ℕ) → i < n → T (p i) → T (r i)) → ((i : ℕ) → i < n → T (q i) → T (r i))
    → over n w p + over n w q ≤ over n w r
over2 n w p q r h k l = let a = sum_mono n (λ i. pick (p i) (w i) + pick (q i) (w i)) (λ i. pick (r i) (w i)) (λ i b. pick2 (p i) (q i) (r i) (w i) (h i b) (k i b) (l i b)) in
    let f = sum_add n (λ i. pick (p i) (w i)) (λ i. pick (q i) (w i)) in omega arith

pub over_none : (n : ℕ) (w : ℕ → ℕ) → over n w (λ i. false) ≡ 0
unfolding sum
over_none zero w = refl
over_none (suc n) w = let h = over_none n w in omega arith

-- one slot more: how a loop adds up
pub over_yes : (i : ℕ) (w : ℕ → ℕ) (p : ℕ → Bool) → p i ≡ true → over (i + 1) w p ≡ over i w p + w i
unfolding sum
over_yes i w p e = rw (add-one, e) refl

pub over_no : (i : ℕ) (w : ℕ → ℕ) (p : ℕ → Bool) → p i ≡ false → over (i + 1) w p ≡ over i w p
unfolding sum
over_no i w p e = rw (add-one, e) (omega arith)

-- the weight of one slot, as a sum
pub over_one : (j n : ℕ) (w : ℕ → ℕ) → j < n → w j ≤ over n w (λ i. eqb j i)
unfolding sum
over_one j zero w h = absurd (omega arith)
over_one j (suc n) w h = go (eq-or-lt_of_le (le_of_suc-le-suc h)) (over_one j n w)
  where
    here : (b : Bool) → T b → w n ≤ pick b (w n)
    here true t = omega arith
    here false t = absurd t

    go : (j ≡ n) ⊎ (j < n) → (j < n → w j ≤ over n w (λ i. eqb j i)) → w j ≤ over n w (λ i. eqb j i) + pick (eqb j n) (w n)
    go (inl e) f = let p = here (eqb j n) (subst (λ z. T (eqb j z)) e (eqb_refl j)) in let q = ap w e in omega arith
    go (inr l) f = let p = f l in omega arith

over_one_none : (j n : ℕ) (w : ℕ → ℕ) → n ≤ j → over n w (λ i. eqb j i) ≡ 0
unfolding sum
over_one_none j zero w h = refl
over_one_none j (suc n) w h = let a = over_one_none j n w (omega arith) in go (eqb j n) (λ t. eqb→eq j n t) a
  where
    go : (b : Bool) → (T b → j ≡ n) → over n w (λ i. eqb j i) ≡ 0 → over n w (λ i. eqb j i) + pick b (w n) ≡ 0
    go true f a = let e = f tt in absurd (omega arith)
    go false f a = omega arith

pub over_one_is : (j n : ℕ) (w : ℕ → ℕ) → j < n → over n w (λ i. eqb j i) ≡ w j
unfolding sum
over_one_is j zero w h = absurd (omega arith)
over_one_is j (suc n) w h = go (eq-or-lt_of_le (le_of_suc-le-suc h)) (over_one_is j n w)
  where
    here : (b : Bool) → T b → pick b (w n) ≡ w n
    here true t = refl
    here false t = absurd t

    there : (b : Bool) → (T b → j ≡ n) → j < n → pick b (w n) ≡ 0
    there true f l = let e = f tt in absurd (omega arith)
    there false f l = refl

    go : (j ≡ n) ⊎ (j < n) → (j < n → over n w (λ i. eqb j i) ≡ w j) → over n w (λ i. eqb j i) + pick (eqb j n) (w n) ≡ w j
    go (inl e) f = let p = here (eqb j n) (subst (λ z. T (eqb j z)) e (eqb_refl j)) in let q = ap w e in let z = over_one_none j n w (omega arith) in omega arith
    go (inr l) f = let p = f l in let q = there (eqb j n) (λ t. eqb→eq j n t) l in omega arith
