-- Sums over sets of items: slot by slot, and no larger than the whole.
use Rattle.std.specs.Prelude.{◌≡◌, refl, Bool, true, false, ℕ, zero, suc, ◌+◌, ◌≤◌, ◌<◌, T}
use Rattle.std.proofs.Common.{ap, arith, add-one}
use Rattle.rules.specs.Slots.{sum, pick, over}
use Rattle.rules.specs.laws.Sums.{sum_cong, sum_mono}

-- One slot more.
pub sum_more : (i : ℕ) (f : ℕ → ℕ) → sum (i + 1) f ≡ sum i f + f i
unfolding sum
sum_more i f = rw (add-one i) refl

pub over_same_tests : (n : ℕ) (w : ℕ → ℕ) (p q : ℕ → Bool) → ((i : ℕ) → i < n → p i ≡ q i) → over n w p ≡ over n w q
over_same_tests n w p q h = sum_cong n _ _ (λ i l. ap (λ b. pick b (w i)) (h i l))

-- The weights too may be others that are the same where they are looked at.
pub over_same : (n : ℕ) (w x : ℕ → ℕ) (p q : ℕ → Bool) → ((i : ℕ) → i < n → w i ≡ x i) → ((i : ℕ) → i < n → p i ≡ q i) → over n w p ≡ over n x q
over_same n w x p q k h = sum_cong n _ _ (λ i l. rw (h i l, k i l) refl)

pub over_mono : (n : ℕ) (w : ℕ → ℕ) (p q : ℕ → Bool) → ((i : ℕ) → i < n → T (p i) → T (q i)) → over n w p ≤ over n w q
over_mono n w p q h = sum_mono n _ _ (λ i l. go (p i) (q i) (w i) (h i l))
  where
    go : (a b : Bool) (x : ℕ) → (T a → T b) → pick a x ≤ pick b x
    go true true x k = omega arith
    go true false x k = absurd (k tt)
    go false b x k = omega arith

-- Two exclusive tests take no more than the whole.
pub over_apart : (n : ℕ) (w : ℕ → ℕ) (p q : ℕ → Bool) → ((i : ℕ) → i < n → T (p i) → T (q i) → ⊥) → over n w p + over n w q ≤ sum n w
unfolding sum
over_apart zero w p q h = omega arith
over_apart (suc n) w p q h = let a = over_apart n w p q (λ i l. h i (omega arith)) in let b = go (p n) (q n) (w n) (h n (omega arith)) in omega arith
  where
    go : (a b : Bool) (x : ℕ) → (T a → T b → ⊥) → pick a x + pick b x ≤ x
    go true true x k = absurd (k tt tt)
    go true false x k = omega arith
    go false true x k = omega arith
    go false false x k = omega arith

-- How a loop adds up.
pub over_step : {s i y : ℕ} {b : Bool} (w : ℕ → ℕ) (p : ℕ → Bool) → s ≡ over i w p → b ≡ p i → y ≡ pick b (w i) → s + y ≡ over (i + 1) w p
over_step {s} {i} {y} {b} w p e f g = rw (sum_more i (λ j. pick (p j) (w j)), ← f, g, e) refl

pub sum_step : {s i y : ℕ} (w : ℕ → ℕ) → s ≡ sum i w → y ≡ w i → s + y ≡ sum (i + 1) w
sum_step {s} {i} {y} w e g = rw (sum_more i w, g, e) refl
