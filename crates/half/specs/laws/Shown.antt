-- What is open, and the weights kept and not dropped, are the rules' own.
use Rattle.std.specs.Prelude.{◌≡◌, List, ℕ, ◌-◌, ◌<◌}
use Rattle.std.proofs.Math.Path.{refl}
use Rattle.std.proofs.Common.{sym, ◌∙◌}
use Rattle.rules.specs.Subscription.{Subscription}
use Rattle.rules.specs.Decisions.{DecidedBySlot}
use Rattle.rules.specs.Limits.{option_open, ordering_open, M, K, D}
use Rattle.rules.specs.laws.Sums.{sum_cong}
use Rattle.rows.specs.Bits.{has}
use Rattle.rows.specs.laws.Sets.{holds_at}
use Rattle.graph.specs.Shown.{counted}
use Rattle.forced.specs.Forced.{ForcedAs}
use Rattle.chart.specs.Arrays.{weight_in, Weighs}
use Rattle.half.specs.Half.{HalfDecidedAs}
use Rattle.half.specs.laws.Weights.{over_same}
use Rattle.chart.specs.Chart.{BySlot}
use Rattle.forced.specs.declared.forcing.Forced.{Forced}
use Rattle.half.specs.declared.opened.Half.{Half}

module _ (v : Subscription) (b : DecidedBySlot) (chart : BySlot) (weighs : Weighs v chart.option_count chart.ordering_count chart.weights chart.ordering_weights) where
  abbrev n : ℕ
  n = chart.option_count

  abbrev m : ℕ
  m = chart.ordering_count

  abbrev ws : List ℕ
  ws = chart.weights

  abbrev bs : List ℕ
  bs = chart.ordering_weights

  abbrev s : Subscription
  s = counted n m v

  pub weight_is : (i : ℕ) → i < n → weight_in ws i ≡ v.weight i
  weight_is i l = sym (weighs.weight i l)

  pub ordering_weight_is : (u : ℕ) → u < m → weight_in bs u ≡ v.ordering_weight u
  ordering_weight_is u l = sym (weighs.ordering_weight u l)

  module _ (f : Forced) (h : Half) (forces : ForcedAs s b f) (half : HalfDecidedAs chart f h) where
    pub option_open_is : (i : ℕ) → i < n → has h.open_options i ≡ option_open s b i
    option_open_is i l = holds_at half.options i l ∙ rw (holds_at forces.kept i l, holds_at forces.dropped i l) refl

    pub ordering_open_is : (u : ℕ) → u < m → has h.open_orderings u ≡ ordering_open s b u
    ordering_open_is u l = holds_at half.orderings u l ∙ rw (holds_at forces.kept_orderings u l, holds_at forces.dropped_orderings u l) refl

    pub K_is : h.lower ≡ K s b
    unfolding K
    K_is = half.lower ∙ rw (over_same n (weight_in ws) v.weight _ _ weight_is (holds_at forces.kept), over_same m (weight_in bs) v.ordering_weight _ _ ordering_weight_is (holds_at forces.kept_orderings)) refl

    pub M_less_D_is : h.upper ≡ M s b - D s b
    unfolding M D
    M_less_D_is = half.upper ∙ rw (
      over_same n (weight_in ws) v.weight _ _ weight_is (holds_at forces.dropped),
      over_same m (weight_in bs) v.ordering_weight _ _ ordering_weight_is (holds_at forces.dropped_orderings),
      sum_cong n (weight_in ws) v.weight weight_is,
      sum_cong m (weight_in bs) v.ordering_weight ordering_weight_is,
    ) refl
