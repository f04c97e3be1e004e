-- The parts that the code works out are the whole answer about a half-decided sheet.
use Rattle.std.specs.Prelude.{◌≡◌, true, false, List, ℕ}
use Rattle.std.proofs.Math.Path.{refl}
use Rattle.std.proofs.Common.{sym, ◌∙◌}
use Rattle.rules.specs.Subscription.{Subscription}
use Rattle.rules.specs.Decisions.{DecidedBySlot}
use Rattle.rules.specs.Forced.{decision_of}
use Rattle.rules.specs.Limits.{whole_lower, whole_upper}
use Rattle.rows.specs.Bits.{has}
use Rattle.rows.specs.laws.Sets.{holds_at}
use Rattle.given.specs.Given.{undecided, choice_of}
use Rattle.graph.specs.Shown.{counted}
use Rattle.forced.specs.Forced.{ForcedAs, ForcedBy}
use Rattle.chart.specs.Arrays.{Weighs}
use Rattle.half.specs.Half.{HalfDecidedAs}
use Rattle.cells.specs.Cells.{no_limit, option_limit_in, ordering_limit_in}
use Rattle.given.specs.Filled.{filled}
use Rattle.limits.specs.Limited.{contradictory, limited_as, LimitedBy}
use Rattle.half.specs.laws.Shown.{K_is, M_less_D_is}
use Rattle.given.specs.laws.Filled.{filled_same}
use Rattle.cells.proofs.laws.Table.{option_limit_is, ordering_limit_is}
use Rattle.sheet.specs.declared.decision.Decision.{Decision}
use Rattle.graph.specs.Graph.{EndsAreSlots}
use Rattle.chart.specs.Chart.{BySlot}
use Rattle.given.specs.declared.sets.Given.{Given}
use Rattle.limits.specs.declared.whole.Limited.{Limited}
use Rattle.forced.specs.declared.forcing.Forced.{Forced}
use Rattle.cells.specs.declared.cells.Limit.{Limit}
use Rattle.half.specs.declared.opened.Half.{Half}

-- ---- "for the whole sheet the limits are K and M − D"
module _ (v : Subscription) (b : DecidedBySlot) (chart : BySlot) (weighs : Weighs v chart.option_count chart.ordering_count chart.weights chart.ordering_weights)
    (f : Forced) (h : Half) (forces : ForcedAs (counted chart.option_count chart.ordering_count v) b f) (half : HalfDecidedAs chart f h) where
  lower_is : h.lower ≡ whole_lower (counted chart.option_count chart.ordering_count v) b
  unfolding whole_lower
  lower_is = K_is v b chart weighs f h forces half

  upper_is : h.upper ≡ whole_upper (counted chart.option_count chart.ordering_count v) b
  unfolding whole_upper
  upper_is = M_less_D_is v b chart weighs f h forces half

module _ (chart : BySlot) (g : Given) (f : Forced) (by : ForcedBy chart g f) where
  abbrev n : ℕ
  n = chart.option_count

  abbrev m : ℕ
  m = chart.ordering_count

  pub limited_contradiction : f.contradiction ≡ true → LimitedBy chart g contradictory
  unfolding limited_as
  limited_contradiction e v b shows weighs gives = rw (sym (by v b shows gives).contradicts ∙ e) refl

  pub limited_otherwise : EndsAreSlots chart.option_count chart.ordering_count chart.firsts chart.seconds → (h : Half) → HalfDecidedAs chart f h → f.contradiction ≡ false
      → {o u : List Decision} {x y : List Limit}
      → o ≡ filled 32 n (λ i. choice_of (decision_of (has f.kept i) (has f.dropped i))) undecided
      → u ≡ filled 64 m (λ j. choice_of (decision_of (has f.kept_orderings j) (has f.dropped_orderings j))) undecided
      → x ≡ filled 32 n (option_limit_in chart h) no_limit
      → y ≡ filled 64 m (ordering_limit_in chart h) no_limit
      → LimitedBy chart g (record { contradiction = false; decisions = record { options = o; orderings = u }; lower = h.lower; upper = h.upper; options = x; orderings = y })
  unfolding limited_as
  limited_otherwise ends h half e {o} {u} {x} {y} eo eu ex ey v b shows weighs gives = rw (sym forces.contradicts ∙ e) (parts
      (eo ∙ filled_same 32 n _ _ undecided (λ i l. rw (holds_at forces.kept i l, holds_at forces.dropped i l) refl))
      (eu ∙ filled_same 64 m _ _ undecided (λ j l. rw (holds_at forces.kept_orderings j l, holds_at forces.dropped_orderings j l) refl))
      (lower_is v b chart weighs f h forces half)
      (upper_is v b chart weighs f h forces half)
      (ex ∙ filled_same 32 n _ _ no_limit (λ i l. option_limit_is v b chart ends shows weighs f h forces half i l))
      (ey ∙ filled_same 64 m _ _ no_limit (λ j l. ordering_limit_is v b chart ends shows weighs f h forces half j l)))
    where
      forces : ForcedAs (counted n m v) b f
      forces = by v b shows gives

      parts : {k a : ℕ} {o' u' : List Decision} {x' y' : List Limit} → o ≡ o' → u ≡ u' → h.lower ≡ k → h.upper ≡ a → x ≡ x' → y ≡ y'
          → ◌≡◌ {A = Limited} (record { contradiction = false; decisions = record { options = o; orderings = u }; lower = h.lower; upper = h.upper; options = x; orderings = y })
          (record { contradiction = false; decisions = record { options = o'; orderings = u' }; lower = k; upper = a; options = x'; orderings = y' })
      parts p q r s t w = rw (p, q, r, s, t, w) refl
