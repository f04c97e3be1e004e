-- A set with more in it, and a flag that tells whether something came.
use Rattle.std.specs.Prelude.{◌≡◌, Bool, true, false, ◌⊎◌, ℕ, ◌<◌, T}
use Rattle.rows.specs.Bits.{has}

-- Only slots below n that are open and of which P holds came; where none came, the set is as it was.
pub record AddedWithFlag (before after opens n : ℕ) (more : Bool) (P : ℕ → Type 0) : Type 0 where
  pub keeps : (j : ℕ) → T (has before j) → T (has after j)
  pub only : (j : ℕ) → T (has after j) → T (has before j) ⊎ ((j < n) × T (has opens j) × P j)
  pub one : more ≡ true → (j : ℕ) × (j < n) × T (has opens j) × T (has after j)
  pub none : more ≡ false → after ≡ before
