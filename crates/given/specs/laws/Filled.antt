-- How a loop fills a list, entry by entry.
use Rattle.std.specs.Prelude.{◌≡◌, List, ◌∷◌, set, replicate}
use Rattle.std.proofs.Math.Path.{refl, ap}
use Rattle.std.proofs.Common.{sym, ◌∙◌, arith, add-one}
use Prim.Native.Nat.{ℕ, zero, suc, ◌+◌, ◌<◌}
use Rattle.given.specs.Filled.{filled}

module _ {A : Type 0} where
  pub filled_none : (k : ℕ) (f : ℕ → A) (z : A) → replicate k z ≡ filled k 0 f z
  unfolding filled
  filled_none zero f z = refl
  filled_none (suc k) f z = ap (λ l. z ∷ l) (filled_none k f z)

  filled_suc : (k i : ℕ) (f : ℕ → A) (z : A) → i < k → set (filled k i f z) i (f i) ≡ filled k (suc i) f z
  unfolding filled
  filled_suc zero i f z h = absurd (omega arith)
  filled_suc (suc k) zero f z h = ap (λ l. f 0 ∷ l) (sym (filled_none k f z) ∙ filled_none k (λ i. f (suc i)) z)
  filled_suc (suc k) (suc i) f z h = ap (λ l. f 0 ∷ l) (filled_suc k i (λ j. f (suc j)) z (omega arith))

  -- One entry more.
  pub filled_step : (k : ℕ) (f : ℕ → A) (z : A) {i : ℕ} {l : List A} {x : A} → l ≡ filled k i f z → i < k → x ≡ f i → set l i x ≡ filled k (i + 1) f z
  filled_step k f z {i} {l} {x} e h g = rw (e, g, add-one i) (filled_suc k i f z h)

  pub filled_same : (k n : ℕ) (f g : ℕ → A) (z : A) → ((i : ℕ) → i < n → f i ≡ g i) → filled k n f z ≡ filled k n g z
  unfolding filled
  filled_same zero n f g z h = refl
  filled_same (suc k) zero f g z h = ap (λ l. z ∷ l) (filled_same k 0 f g z h)
  filled_same (suc k) (suc n) f g z h = rw (h 0 (omega arith), filled_same k n (λ i. f (suc i)) (λ i. g (suc i)) z (λ i l. h (suc i) (omega arith))) refl
