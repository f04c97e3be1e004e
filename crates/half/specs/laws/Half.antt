-- The parts that the code works out are the half-decided sheet.
use Rattle.std.specs.Prelude.{◌≡◌, refl, Bool, true, false, not, ◌||◌, List, ℕ, ◌+◌, ◌-◌, ◌≤◌, T}
use Rattle.std.proofs.Common.{subst, arith, T_not}
use Rattle.rules.specs.Slots.{sum}
use Rattle.rows.specs.Bits.{has}
use Rattle.rows.specs.Sets.{Holds}
use Rattle.rows.specs.laws.Sets.{holds_at}
use Rattle.chart.specs.Arrays.{weight_in}
use Rattle.half.specs.Weights.{largest_sum}
use Rattle.half.specs.Half.{whole_weight, weight_of_sets, HalfDecidedAs}
use Rattle.half.specs.laws.Weights.{over_apart}
use Rattle.chart.specs.Chart.{BySlot}
use Rattle.forced.specs.declared.forcing.Forced.{Forced}

-- What is dropped is not open.
open_apart : (a b c : Bool) → c ≡ not (a || b) → T b → T c → ⊥
open_apart true true c e t u = T_not true (subst T e u) tt
open_apart false true c e t u = T_not true (subst T e u) tt
open_apart true false c e t u = t
open_apart false false c e t u = t

pub dropped_fits : (chart : BySlot) (p q : ℕ → Bool) → weight_of_sets chart p q ≤ whole_weight chart
dropped_fits chart p q =
    let a = over_apart chart.option_count (weight_in chart.weights) p (λ _. false) (λ i l t u. u) in
    let b = over_apart chart.ordering_count (weight_in chart.ordering_weights) q (λ _. false) (λ i l t u. u) in omega arith

module _ (chart : BySlot) (f : Forced) where
  abbrev n : ℕ
  n = chart.option_count

  abbrev m : ℕ
  m = chart.ordering_count

  abbrev ws : List ℕ
  ws = chart.weights

  abbrev bs : List ℕ
  bs = chart.ordering_weights

  pub half_decided_as : (o u lower x y gone : ℕ)
      → Holds o n (λ i. not (has f.kept i || has f.dropped i)) → Holds u m (λ j. not (has f.kept_orderings j || has f.dropped_orderings j))
      → lower ≡ weight_of_sets chart (has f.kept) (has f.kept_orderings) → lower ≤ largest_sum
      → x ≡ sum n (weight_in ws) → y ≡ sum m (weight_in bs) → x + y ≤ largest_sum
      → gone ≡ weight_of_sets chart (has f.dropped) (has f.dropped_orderings)
      → HalfDecidedAs chart f (record { open_options = o; open_orderings = u; known = f.known; lower = lower; upper = x + y - gone })
  half_decided_as o u lower x y gone ro ru el bl ex ey bxy eg = record {
    options = ro;
    orderings = ru;
    knows = refl;
    lower = el;
    upper = rw (ex, ey, eg) refl;
    roomy = record { fits = fits; lower = bl; upper = omega arith };
  }
    where
      fits : weight_of_sets chart (has o) (has u) ≤ x + y - gone
      fits =
          let a = over_apart n (weight_in ws) (has f.dropped) (has o) (λ i l t s. open_apart (has f.kept i) (has f.dropped i) (has o i) (holds_at ro i l) t s) in
          let b = over_apart m (weight_in bs) (has f.dropped_orderings) (has u) (λ i l t s. open_apart (has f.kept_orderings i) (has f.dropped_orderings i) (has u i) (holds_at ru i l) t s) in
          omega arith
