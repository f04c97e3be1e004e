-- A list of k entries: the first n by a function, the others the same.
use Rattle.std.specs.Prelude.{List, [], ◌∷◌, ℕ, zero, suc}

module _ {A : Type 0} where
  unfoldable pub filled : (k n : ℕ) → (ℕ → A) → A → List A
  filled zero n f z = []
  filled (suc k) zero f z = z ∷ filled k zero f z
  filled (suc k) (suc n) f z = f 0 ∷ filled k n (λ i. f (suc i)) z
