-- A decision list as sets of kept and dropped items, and one item more decided in it.
use Rattle.std.specs.Prelude.{◌≡◌, Bool, false, cond, List, ◌++◌, ℕ, ◌+◌, ◌-◌, ◌≤◌, ◌<◌, T, ltb}
use Rattle.chart.specs.Chart.{BySlot}
use Rattle.rules.specs.Slots.{list_of}
use Rattle.rules.specs.Decisions.{Decision}
use Rattle.rules.specs.Forced.{decision_of}
use Rattle.rows.specs.Bits.{has, with}
use Rattle.given.specs.declared.sets.Given.{Given}
use Rattle.forced.specs.declared.forcing.Forced.{Forced}

-- The decision list that sets of kept and dropped items show.
unfoldable pub decisions_of : BySlot → Given → List Decision
decisions_of chart g = list_of chart.option_count (λ i. decision_of (has g.kept i) (has g.dropped i)) ++ list_of chart.ordering_count (λ u. decision_of (has g.kept_orderings u) (has g.dropped_orderings u))

-- The choice that keeps the options of one set and the orderings of another.
unfoldable pub chosen_list : (n m kept kept_orderings : ℕ) → List Bool
chosen_list n m kept kept_orderings = list_of n (has kept) ++ list_of m (has kept_orderings)

-- No item is both kept and dropped, and only the sheet's own items are decided.
pub record Apart (chart : BySlot) (g : Given) : Type 0 where
  pub options : (i : ℕ) → T (has g.kept i) → T (has g.dropped i) → ⊥
  pub orderings : (u : ℕ) → T (has g.kept_orderings u) → T (has g.dropped_orderings u) → ⊥
  pub kept : (i : ℕ) → T (has g.kept i) → i < chart.option_count
  pub dropped : (i : ℕ) → T (has g.dropped i) → i < chart.option_count
  pub kept_orderings : (u : ℕ) → T (has g.kept_orderings u) → u < chart.ordering_count
  pub dropped_orderings : (u : ℕ) → T (has g.dropped_orderings u) → u < chart.ordering_count

abbrev pub sets_of : Forced → Given
sets_of f = record { kept = f.kept; dropped = f.dropped; kept_orderings = f.kept_orderings; dropped_orderings = f.dropped_orderings }

-- ---- an item by its number: option i is i, ordering u is 32 + u
-- Item x is on the sheet, and open.
pub record OpenItem (chart : BySlot) (g : Given) (x : ℕ) : Type 0 where
  pub option : x < 32 → (x < chart.option_count) × (has g.kept x ≡ false) × (has g.dropped x ≡ false)
  pub ordering : 32 ≤ x → (x - 32 < chart.ordering_count) × (has g.kept_orderings (x - 32) ≡ false) × (has g.dropped_orderings (x - 32) ≡ false)

-- The place of an item in a decision list.
unfoldable pub place : ℕ → ℕ → ℕ
place n x = cond (ltb x 32) x (n + (x - 32))

abbrev pub with_option_kept : Given → ℕ → Given
with_option_kept g i = record { kept = with g.kept i; dropped = g.dropped; kept_orderings = g.kept_orderings; dropped_orderings = g.dropped_orderings }

abbrev pub with_option_dropped : Given → ℕ → Given
with_option_dropped g i = record { kept = g.kept; dropped = with g.dropped i; kept_orderings = g.kept_orderings; dropped_orderings = g.dropped_orderings }

abbrev pub with_ordering_kept : Given → ℕ → Given
with_ordering_kept g u = record { kept = g.kept; dropped = g.dropped; kept_orderings = with g.kept_orderings u; dropped_orderings = g.dropped_orderings }

abbrev pub with_ordering_dropped : Given → ℕ → Given
with_ordering_dropped g u = record { kept = g.kept; dropped = g.dropped; kept_orderings = g.kept_orderings; dropped_orderings = with g.dropped_orderings u }

-- The decisions with one item more kept, or dropped.
unfoldable pub with_item_kept : Given → ℕ → Given
with_item_kept g x = cond (ltb x 32) (with_option_kept g x) (with_ordering_kept g (x - 32))

unfoldable pub with_item_dropped : Given → ℕ → Given
with_item_dropped g x = cond (ltb x 32) (with_option_dropped g x) (with_ordering_dropped g (x - 32))

abbrev pub nothing_given : Given
nothing_given = record { kept = 0; dropped = 0; kept_orderings = 0; dropped_orderings = 0 }
