-- Open items that are kept beside the forced ones.
use Rattle.std.specs.Prelude.{◌≡◌, ◌≢◌, List, ◌⊎◌, ℕ, ◌+◌, ◌<◌, T}
use Rattle.chart.specs.Chart.{BySlot}
use Rattle.rules.specs.laws.search.Residual.{held}
use Rattle.rows.specs.Bits.{has}
use Rattle.numbered.specs.Items.{numbered, ends_only}
use Rattle.residual.specs.Left.{Rest, residual_of}
use Rattle.half.specs.declared.opened.Half.{Half}
use Rattle.loose.specs.Loose.{EndsOf, LooseBy}
use Rattle.given.specs.declared.sets.Given.{Given}

-- Item x may be kept: its consequences hold more than can be spared, or it is loose.
pub data MayKeep (chart : BySlot) (known after : List ℕ) (opens begins ends : ℕ) (left : Rest) (spare x : ℕ) : Type 0 where
  needed : spare < held (ends_only chart.option_count chart.ordering_count chart.firsts chart.seconds) (residual_of left) (numbered x) → MayKeep chart known after opens begins ends left spare x
  loose : LooseBy known after chart.firsts chart.seconds chart.option_count opens begins ends x → MayKeep chart known after opens begins ends left spare x

-- A set with more in it: only slots below n that are open and of which P holds.
pub record AddedTo (before after opens n : ℕ) (P : ℕ → Type 0) : Type 0 where
  pub keeps : (j : ℕ) → T (has before j) → T (has after j)
  pub only : (j : ℕ) → T (has after j) → T (has before j) ⊎ ((j < n) × T (has opens j) × P j)
  pub one : after ≢ before → (j : ℕ) × (j < n) × T (has opens j) × T (has after j)

-- Items that may be kept are kept too, at least one; nothing else moves.
pub record KeptMore (chart : BySlot) (h : Half) (after : List ℕ) (left : Rest) (spare : ℕ) (g k : Given) : Type 0 where
  pub begins : ℕ
  pub ends : ℕ
  pub begin : EndsOf h.open_orderings chart.firsts chart.ordering_count begins
  pub end : EndsOf h.open_orderings chart.seconds chart.ordering_count ends
  pub option : AddedTo g.kept k.kept h.open_options chart.option_count (MayKeep chart h.known after h.open_options begins ends left spare)
  pub ordering : AddedTo g.kept_orderings k.kept_orderings h.open_orderings chart.ordering_count (λ u. MayKeep chart h.known after h.open_options begins ends left spare (32 + u))
  pub dropped : k.dropped ≡ g.dropped
  pub dropped_orderings : k.dropped_orderings ≡ g.dropped_orderings
  pub more : (k.kept ≢ g.kept) ⊎ (k.kept_orderings ≢ g.kept_orderings)
