-- Decision lists made slot by slot in which nothing is open.
use Rattle.std.specs.Prelude.{◌≡◌, refl, List, ◌∷◌, ◌++◌, ℕ, zero, suc, ◌<◌, T}
use Rattle.std.proofs.Common.{◌∙◌, arith}
use Rattle.rules.specs.Slots.{list_of}
use Rattle.rules.specs.Decisions.{Decision, Open, Kept, Dropped, is_open, open_items}

past : (w : Decision) (l : List Decision) → (T (is_open w) → ⊥) → open_items (w ∷ l) ≡ open_items l
past Open l k = absurd (k tt)
past Kept l k = refl
past Dropped l k = refl

pub none_open_in : (n : ℕ) (f : ℕ → Decision) (rest : List Decision) → ((j : ℕ) → j < n → T (is_open (f j)) → ⊥) → open_items (list_of n f ++ rest) ≡ open_items rest
unfolding list_of
none_open_in zero f rest none = refl
none_open_in (suc n) f rest none = past (f 0) (list_of n (λ j. f (suc j)) ++ rest) (none 0 (omega arith)) ∙ none_open_in n (λ j. f (suc j)) rest (λ j k. none (suc j) (omega arith))

pub none_open_alone : (n : ℕ) (f : ℕ → Decision) → ((j : ℕ) → j < n → T (is_open (f j)) → ⊥) → open_items (list_of n f) ≡ 0
unfolding list_of
none_open_alone zero f none = refl
none_open_alone (suc n) f none = past (f 0) (list_of n (λ j. f (suc j))) (none 0 (omega arith)) ∙ none_open_alone n (λ j. f (suc j)) (λ j k. none (suc j) (omega arith))
