-- The tie rule, the best relaxation, and what a search answers.
use Rattle.std.specs.Prelude.{◌≡◌, Bool, true, false, ◌⊎◌, List, [], ◌∷◌, ℕ, ◌+◌, ◌≤◌, T}
use Rattle.rules.specs.Lines.{Lines}
use Rattle.rules.specs.Relaxation.{ConsistentRelaxation, value_of}

-- "Compare options in slot order, then orderings in slot order. At the first difference the one that keeps the item wins."
abbrev pub wins_tie : List Bool → List Bool → Bool
wins_tie [] q = false
wins_tie (b ∷ r) [] = false
wins_tie (true ∷ r) (true ∷ q) = wins_tie r q
wins_tie (true ∷ r) (false ∷ q) = true
wins_tie (false ∷ r) (true ∷ q) = false
wins_tie (false ∷ r) (false ∷ q) = wins_tie r q

-- The best of the choices that are allowed: none is worth more, and of those worth as much it wins every tie.
pub record Best (worth : List Bool → ℕ) (Allowed : List Bool → Type 0) (r : List Bool) : Type 0 where
  pub allowed : Allowed r
  pub top : (q : List Bool) → Allowed q → worth q ≤ worth r
  pub tie : (q : List Bool) → Allowed q → worth q ≡ worth r → (q ≡ r) ⊎ T (wins_tie r q)

-- The best relaxation of a sheet, over all its consistent relaxations.
abbrev pub BestOf : Lines → List Bool → Type 0
BestOf s = Best (value_of s) (ConsistentRelaxation s)

-- What a search gives at a tolerance: a relaxation, its value (V) and a ceiling (C).
pub record Answer : Type 0 where
  pub relaxation : List Bool
  pub value : ℕ
  pub ceiling : ℕ

-- Demand 3: "a consistent relaxation of value V and a ceiling C: no consistent relaxation is worth more than C, and C − V is at most
-- the tolerance. At tolerance 0 the answer is the best one that the tie rule names."
pub record AnswerTo (s : Lines) (tolerance : ℕ) (a : Answer) : Type 0 where
  pub allowed : ConsistentRelaxation s a.relaxation
  pub worth : value_of s a.relaxation ≡ a.value
  pub top : (q : List Bool) → ConsistentRelaxation s q → value_of s q ≤ a.ceiling
  pub near : a.ceiling ≤ a.value + tolerance
  pub best : tolerance ≡ 0 → BestOf s a.relaxation
