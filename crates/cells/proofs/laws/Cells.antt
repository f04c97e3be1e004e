-- The parts that the code works out are the limits of one item over rows of bits.
use Rattle.std.specs.Prelude.{◌≡◌, true, false, ◌&&◌, ◌||◌, List, ℕ, ◌+◌, ◌-◌, get_or}
use Rattle.std.proofs.Math.Path.{refl}
use Rattle.std.proofs.Common.{◌∙◌}
use Rattle.std.proofs.Math.Dec.{eqb}
use Rattle.rules.specs.Slots.{over}
use Rattle.rows.specs.Bits.{has, with, joined, met}
use Rattle.rows.specs.Sets.{Holds}
use Rattle.rows.specs.laws.Bits.{has_joined, has_none, has_met, has_with_slot}
use Rattle.rows.specs.laws.Sets.{holds_at}
use Rattle.chart.specs.Arrays.{weight_in}
use Rattle.half.specs.Half.{clashes_in, weight_of_sets}
use Rattle.cells.specs.Cells.{no_limit, touches_in, open_option_in, open_ordering_in, weight_with_orderings_in, option_limit_in, ordering_limit_in}
use Rattle.half.specs.laws.Weights.{over_same_tests}
use Rattle.cells.proofs.laws.Charges.{same_weight_with_orderings}
use Rattle.half.specs.declared.opened.Half.{Half}
use Rattle.graph.specs.Graph.{EndsAreSlots}
use Rattle.chart.specs.Chart.{BySlot}

module _ (chart : BySlot) (h : Half) where
  abbrev n : ℕ
  n = chart.option_count

  abbrev m : ℕ
  m = chart.ordering_count

  abbrev firsts : List ℕ
  firsts = chart.firsts

  abbrev seconds : List ℕ
  seconds = chart.seconds

  abbrev ws : List ℕ
  ws = chart.weights

  abbrev bs : List ℕ
  bs = chart.ordering_weights

  pub charge_of_set : (set : ℕ) {x y r : ℕ} → x ≡ met h.open_options set → Holds y m (touches_in chart h.open_orderings x)
      → r ≡ weight_of_sets chart (has x) (has y) → r ≡ weight_with_orderings_in chart h (has set)
  unfolding weight_with_orderings_in
  charge_of_set set {x} {y} {r} ex ry er = er ∙ rw (
    over_same_tests n (weight_in ws) (has x) (open_option_in chart h (has set)) (λ j _. at j),
    over_same_tests m (weight_in bs) (has y) (open_ordering_in chart h (has set)) (λ u l. holds_at ry u l ∙ rw (at (get_or firsts u 0), at (get_or seconds u 0)) refl),
  ) refl
    where
      at : (j : ℕ) → has x j ≡ (has h.open_options j && has set j)
      at j = rw ex (has_met h.open_options set j)

  one_slot : (i j : ℕ) → has (with 0 i) j ≡ eqb i j
  one_slot i j = has_with_slot 0 i j ∙ rw (has_none j) refl

  pub open_option_limit : EndsAreSlots n m firsts seconds → (i : ℕ) {clash own a b : ℕ} → has h.open_options i ≡ true → Holds clash n (clashes_in h.known i) → own ≡ with 0 i
      → a ≡ weight_with_orderings_in chart h (has clash) → b ≡ weight_with_orderings_in chart h (has own)
      → record { kept_lower = h.lower + weight_in ws i; kept_upper = h.upper - a; dropped_lower = h.lower; dropped_upper = h.upper - b } ≡ option_limit_in chart h i
  unfolding option_limit_in
  open_option_limit e i {clash} {own} {a} {b} t rc eo ea eb = rw (
    t,
    ea,
    same_weight_with_orderings chart h e (has clash) (clashes_in h.known i) (holds_at rc),
    eb,
    same_weight_with_orderings chart h e (has own) (eqb i) (λ j _. rw eo (one_slot i j)),
  ) refl

  pub decided_option_limit : (i : ℕ) → has h.open_options i ≡ false → no_limit ≡ option_limit_in chart h i
  unfolding option_limit_in
  decided_option_limit i t = rw t refl

  pub open_ordering_limit : EndsAreSlots n m firsts seconds → (u : ℕ) {first second before after clash one two ends needed a : ℕ} → has h.open_orderings u ≡ true
      → first ≡ get_or firsts u 0 → second ≡ get_or seconds u 0
      → Holds before n (clashes_in h.known first) → Holds after n (clashes_in h.known second) → clash ≡ joined before after
      → a ≡ weight_with_orderings_in chart h (has clash)
      → one ≡ with 0 first → two ≡ with one second → ends ≡ met h.open_options two → needed ≡ over n (weight_in ws) (has ends)
      → record { kept_lower = h.lower + weight_in bs u + needed; kept_upper = h.upper - a; dropped_lower = h.lower; dropped_upper = h.upper - weight_in bs u } ≡ ordering_limit_in chart h u
  unfolding ordering_limit_in
  open_ordering_limit e u {first} {second} {before} {after} {clash} {one} {two} {ends} {needed} {a} t ef es rb ra ec ea e1 e2 en ew = rw (
    t,
    ea,
    same_weight_with_orderings chart h e (has clash) (λ j. clashes_in h.known (get_or firsts u 0) j || clashes_in h.known (get_or seconds u 0) j)
        (λ j l. rw (ec, has_joined before after j, holds_at rb j l, holds_at ra j l, ef, es) refl),
    ew,
    over_same_tests n (weight_in ws) (has ends) (λ j. has h.open_options j && (eqb (get_or firsts u 0) j || eqb (get_or seconds u 0) j))
        (λ j _. rw (en, has_met h.open_options two j, e2, has_with_slot one second j, e1, one_slot first j, ef, es) refl),
  ) refl

  pub decided_ordering_limit : (u : ℕ) → has h.open_orderings u ≡ false → no_limit ≡ ordering_limit_in chart h u
  unfolding ordering_limit_in
  decided_ordering_limit u t = rw t refl
