-- What may be taken off everything, and what may be added to what is kept: over any tests of what a relaxation keeps and drops.
use Rattle.std.specs.Prelude.{Bool, ℕ, ◌+◌, ◌≤◌, T}
use native.Mathlib.Omega.{arith}
use Rattle.rules.specs.Slots.{sum}
use Rattle.rules.specs.Subscription.{Subscription}
use Rattle.rules.specs.Relaxation.{KeptBySlot, value}
use Rattle.rules.specs.Limits.{weight_of}
use Rattle.rules.specs.laws.Sums.{over2, over3}

-- No slot passes both tests.
abbrev pub Apart : (ℕ → Bool) → (ℕ → Bool) → Type 0
Apart p q = (i : ℕ) → T (p i) → T (q i) → ⊥

-- Each slot that passes the first test passes the second.
abbrev pub Within : (ℕ → Bool) → (ℕ → Bool) → Type 0
Within p q = (i : ℕ) → T (p i) → T (q i)

module _ (v : Subscription) (c : KeptBySlot) where
  -- What c drops, in two parts that have nothing in common, is missing from its value.
  pub upper : (p q p' q' : ℕ → Bool) → Apart c.option p → Apart c.ordering q → Apart c.option p' → Apart c.ordering q' → Apart p p' → Apart q q'
      → value v c + weight_of v p q + weight_of v p' q' ≤ sum v.option_count v.weight + sum v.ordering_count v.ordering_weight
  unfolding value
  upper p q p' q' cp cq cp' cq' pp qq =
      let a = over3 v.option_count v.weight c.option p p' (λ i _. cp i) (λ i _. cp' i) (λ i _. pp i) in
      let b = over3 v.ordering_count v.ordering_weight c.ordering q q' (λ u _. cq u) (λ u _. cq' u) (λ u _. qq u) in
      omega arith

  -- What c keeps, in two parts that have nothing in common, is in its value.
  pub lower : (p q p' q' : ℕ → Bool) → Within p c.option → Within q c.ordering → Within p' c.option → Within q' c.ordering → Apart p p' → Apart q q'
      → weight_of v p q + weight_of v p' q' ≤ value v c
  unfolding value
  lower p q p' q' cp cq cp' cq' pp qq =
      let a = over2 v.option_count v.weight p p' c.option (λ i _. pp i) (λ i _. cp i) (λ i _. cp' i) in
      let b = over2 v.ordering_count v.ordering_weight q q' c.ordering (λ u _. qq u) (λ u _. cq u) (λ u _. cq' u) in
      omega arith
