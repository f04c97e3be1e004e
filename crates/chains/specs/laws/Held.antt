-- The orderings that still hold something, put into an empty table.
use Rattle.std.specs.Prelude.{refl, List, ℕ, replicate}
use Rattle.std.proofs.Common.{◌∙◌}
use Rattle.rows.specs.Sets.{Holds}
use Rattle.rows.specs.laws.Sets.{holds_at}
use Rattle.rows.specs.laws.Slots.{some_same}
use Rattle.graph.specs.Graph.{WithOrderings}
use Rattle.chains.specs.Held.{holds_some, Soft}
use Rattle.graph.specs.laws.Nought.{nothing_held}

pub soft_is : (firsts seconds left : List ℕ) (open_orderings m set : ℕ) {r : List ℕ} → Holds set m (holds_some left open_orderings) → WithOrderings (replicate 32 0) set firsts seconds m r → Soft firsts seconds left open_orderings m r
soft_is firsts seconds left open_orderings m set {r} h w = record {
  size = w.size;
  at = λ p q l. w.at p q l ∙ rw (nothing_held 32 p q) (some_same m _ _ (λ u k. rw (holds_at h u k) refl));
}
