-- What is charged is open, so it can be taken off what is not dropped.
use Rattle.std.specs.Prelude.{◌≡◌, Bool, List, ℕ, ◌≤◌, ◌<◌, get_or, T, eqb}
use Rattle.std.proofs.Math.Path.{refl}
use Rattle.std.proofs.Common.{subst, eqb→eq}
use native.Mathlib.Omega.{arith}
use Rattle.rules.specs.laws.Tests.{and_l}
use Rattle.rules.specs.laws.Sums.{over_one}
use Rattle.rows.specs.Bits.{has}
use Rattle.chart.specs.Arrays.{weight_in}
use Rattle.half.specs.Half.{OpenFits}
use Rattle.cells.specs.Cells.{open_option_in, open_ordering_in, weight_with_orderings_in}
use Rattle.half.specs.laws.Weights.{over_same_tests, over_mono}
use Rattle.half.specs.declared.opened.Half.{Half}
use Rattle.graph.specs.Graph.{EndsAreSlots}
use Rattle.chart.specs.Chart.{BySlot}

module _ (chart : BySlot) (h : Half) where
  abbrev n : ℕ
  n = chart.option_count

  abbrev m : ℕ
  m = chart.ordering_count

  abbrev firsts : List ℕ
  firsts = chart.firsts

  abbrev seconds : List ℕ
  seconds = chart.seconds

  abbrev ws : List ℕ
  ws = chart.weights

  abbrev bs : List ℕ
  bs = chart.ordering_weights

  pub same_weight_with_orderings : EndsAreSlots n m firsts seconds → (p q : ℕ → Bool) → ((j : ℕ) → j < n → p j ≡ q j) → weight_with_orderings_in chart h p ≡ weight_with_orderings_in chart h q
  unfolding weight_with_orderings_in
  same_weight_with_orderings e p q k = rw (
    over_same_tests n (weight_in ws) (open_option_in chart h p) (open_option_in chart h q) (λ j l. rw (k j l) refl),
    over_same_tests m (weight_in bs) (open_ordering_in chart h p) (open_ordering_in chart h q) (λ u l. rw (k (get_or firsts u 0) (e.first u l), k (get_or seconds u 0) (e.second u l)) refl),
  ) refl

  pub charge_fits : OpenFits chart h → (p : ℕ → Bool) → weight_with_orderings_in chart h p ≤ h.upper
  unfolding weight_with_orderings_in
  charge_fits r p =
      let a = over_mono n (weight_in ws) (open_option_in chart h p) (has h.open_options) (λ j _ t. and_l (has h.open_options j) _ t) in
      let b = over_mono m (weight_in bs) (open_ordering_in chart h p) (has h.open_orderings) (λ u _ t. and_l (has h.open_orderings u) _ t) in
      let c = r.fits in omega arith

  pub own_weight_fits : OpenFits chart h → (u : ℕ) → u < m → T (has h.open_orderings u) → weight_in bs u ≤ h.upper
  own_weight_fits r u l t =
      let a = over_one u m (weight_in bs) l in
      let b = over_mono m (weight_in bs) (λ j. eqb u j) (has h.open_orderings) (λ j _ e. subst (λ z. T (has h.open_orderings z)) (eqb→eq u j e) t) in
      let c = r.fits in omega arith
