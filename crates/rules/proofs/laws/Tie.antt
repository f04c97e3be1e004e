-- The tie rule is a strict order, so the best is unique.
use Rattle.std.specs.Prelude.{◌≡◌, Bool, true, false, not, ◌⊎◌, List, [], ◌∷◌, ℕ, zero, suc, ◌<◌, length, get_or, set, T}
use Rattle.std.proofs.Common.{sym, inl, inr, le_antisymm, le_of_suc-le-suc, arith}
use Rattle.rules.specs.Best.{wins_tie, Best}

-- With an item added, a choice wins over what it was.
pub adding_wins_tie : (r : List Bool) (k : ℕ) → k < length r → T (not (get_or r k false)) → T (wins_tie (set r k true) r)
adding_wins_tie [] k l t = absurd (omega arith)
adding_wins_tie (true ∷ r) zero l t = absurd t
adding_wins_tie (false ∷ r) zero l t = tt
adding_wins_tie (true ∷ r) (suc k) l t = adding_wins_tie r k (le_of_suc-le-suc l) t
adding_wins_tie (false ∷ r) (suc k) l t = adding_wins_tie r k (le_of_suc-le-suc l) t

pub tie_irreflexive : (r : List Bool) → T (wins_tie r r) → ⊥
tie_irreflexive [] p = p
tie_irreflexive (true ∷ r) p = tie_irreflexive r p
tie_irreflexive (false ∷ r) p = tie_irreflexive r p

pub tie_asymmetric : (r s : List Bool) → T (wins_tie r s) → T (wins_tie s r) → ⊥
tie_asymmetric [] s p q = p
tie_asymmetric (true ∷ r) [] p q = p
tie_asymmetric (false ∷ r) [] p q = p
tie_asymmetric (true ∷ r) (true ∷ s) p q = tie_asymmetric r s p q
tie_asymmetric (true ∷ r) (false ∷ s) p q = q
tie_asymmetric (false ∷ r) (true ∷ s) p q = p
tie_asymmetric (false ∷ r) (false ∷ s) p q = tie_asymmetric r s p q

pub tie_transitive : (r s t : List Bool) → T (wins_tie r s) → T (wins_tie s t) → T (wins_tie r t)
tie_transitive [] s t p q = absurd p
tie_transitive (true ∷ r) [] t p q = absurd p
tie_transitive (false ∷ r) [] t p q = absurd p
tie_transitive (true ∷ r) (true ∷ s) [] p q = absurd q
tie_transitive (true ∷ r) (false ∷ s) [] p q = absurd q
tie_transitive (false ∷ r) (true ∷ s) [] p q = absurd p
tie_transitive (false ∷ r) (false ∷ s) [] p q = absurd q
tie_transitive (true ∷ r) (true ∷ s) (true ∷ t) p q = tie_transitive r s t p q
tie_transitive (true ∷ r) (true ∷ s) (false ∷ t) p q = tt
tie_transitive (true ∷ r) (false ∷ s) (true ∷ t) p q = absurd q
tie_transitive (true ∷ r) (false ∷ s) (false ∷ t) p q = tt
tie_transitive (false ∷ r) (true ∷ s) (b ∷ t) p q = absurd p
tie_transitive (false ∷ r) (false ∷ s) (true ∷ t) p q = absurd q
tie_transitive (false ∷ r) (false ∷ s) (false ∷ t) p q = tie_transitive r s t p q

-- THE BEST IS UNIQUE.
pub best_unique : (worth : List Bool → ℕ) {Allowed : List Bool → Type 0} (r s : List Bool) → Best worth Allowed r → Best worth Allowed s → r ≡ s
best_unique worth r s b c = go (c.tie r b.allowed (le_antisymm (c.top r b.allowed) (b.top s c.allowed))) (b.tie s c.allowed (le_antisymm (b.top s c.allowed) (c.top r b.allowed)))
  where
    go : (r ≡ s) ⊎ T (wins_tie s r) → (s ≡ r) ⊎ T (wins_tie r s) → r ≡ s
    go (inl e) q = e
    go (inr p) (inl e) = sym e
    go (inr p) (inr q) = absurd (tie_asymmetric r s q p)
