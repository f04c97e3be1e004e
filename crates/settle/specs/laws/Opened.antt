-- A half-decided sheet's sets and table, as the code holds them, against the rules.
use Rattle.std.specs.Prelude.{refl}
use Rattle.std.proofs.Common.{sym, subst}
use Rattle.rules.specs.Subscription.{Subscription}
use Rattle.rules.specs.Decisions.{DecidedBySlot}
use Rattle.rules.specs.KnownBefore.{known_before}
use Rattle.rules.specs.Limits.{option_open, ordering_open}
use Rattle.rows.specs.Sets.{Holds, Table}
use Rattle.rows.specs.laws.Sets.{holds_at, holds_same}
use Rattle.graph.specs.Shown.{counted}
use Rattle.chart.specs.Chart.{BySlot}
use Rattle.forced.specs.Forced.{ForcedAs}
use Rattle.forced.specs.declared.forcing.Forced.{Forced}
use Rattle.half.specs.Half.{HalfDecidedAs}
use Rattle.half.specs.declared.opened.Half.{Half}

module _ (v : Subscription) (d : DecidedBySlot) (chart : BySlot) (f : Forced) (h : Half) (forces : ForcedAs (counted chart.option_count chart.ordering_count v) d f) (half : HalfDecidedAs chart f h) where
  pub open_options_hold : Holds h.open_options chart.option_count (option_open (counted chart.option_count chart.ordering_count v) d)
  open_options_hold = holds_same half.options (λ i l. rw (holds_at forces.kept i l, holds_at forces.dropped i l) refl)

  pub open_orderings_hold : Holds h.open_orderings chart.ordering_count (ordering_open (counted chart.option_count chart.ordering_count v) d)
  open_orderings_hold = holds_same half.orderings (λ u l. rw (holds_at forces.kept_orderings u l, holds_at forces.dropped_orderings u l) refl)

  pub known_table : Table h.known chart.option_count (known_before (counted chart.option_count chart.ordering_count v) d)
  known_table = subst (λ t. Table t chart.option_count (known_before (counted chart.option_count chart.ordering_count v) d)) (sym half.knows) forces.known
