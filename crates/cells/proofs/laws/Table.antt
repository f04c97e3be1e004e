-- The limits over rows of bits are 01's table, cell by cell.
use Rattle.std.specs.Prelude.{◌≡◌, Bool, ◌&&◌, ◌||◌, cond, List, ℕ, ◌-◌, ◌<◌, get_or}
use Rattle.std.proofs.Math.Path.{refl}
use Rattle.std.proofs.Common.{sym, subst, ◌∙◌, eq-eqb, ne_eqb}
use Rattle.std.proofs.Math.Bool.{true, false}
use Rattle.std.proofs.Math.Decide.{ℕ_discrete}
use Rattle.std.proofs.Math.Dec.{T, eqb}
use Rattle.rules.specs.Subscription.{Subscription}
use Rattle.rules.specs.Decisions.{DecidedBySlot}
use Rattle.rules.specs.KnownBefore.{touches}
use Rattle.rules.specs.Limits.{option_open, ordering_open, M, K, D, A, B, E, clash, weight_with_orderings, option_kept_lower, option_kept_upper, option_dropped_lower, option_dropped_upper, ordering_kept_lower, ordering_kept_upper, ordering_dropped_lower, ordering_dropped_upper}
use Rattle.rows.specs.Bits.{has}
use Rattle.graph.specs.Shown.{counted, Shows}
use Rattle.forced.specs.Forced.{ForcedAs}
use Rattle.rules.specs.Results.{option_limit, ordering_limit}
use Rattle.chart.specs.Arrays.{weight_in, Weighs}
use Rattle.half.specs.Half.{clashes_in, HalfDecidedAs}
use Rattle.cells.specs.Cells.{no_limit, shown_limit, open_option_in, open_ordering_in, weight_with_orderings_in, option_limit_in, ordering_limit_in}
use Rattle.half.specs.laws.Weights.{over_same, over_same_tests}
use Rattle.half.specs.laws.Shown as H
use Rattle.cells.proofs.laws.Charges.{same_weight_with_orderings}
use Rattle.rules.specs.Results as R
use Rattle.graph.specs.Graph.{EndsAreSlots}
use Rattle.chart.specs.Chart.{BySlot}
use Rattle.forced.specs.declared.forcing.Forced.{Forced}
use Rattle.cells.specs.declared.cells.Limit.{Limit}
use Rattle.half.specs.declared.opened.Half.{Half}

pub eqb_turn : (i j : ℕ) → eqb i j ≡ eqb j i
eqb_turn i j = go (ℕ_discrete i j)
  where
    go : Dec (i ≡ j) → eqb i j ≡ eqb j i
    go (yes e) = eq-eqb i j e ∙ sym (eq-eqb j i (sym e))
    go (no n) = ne_eqb i j n ∙ sym (ne_eqb j i (λ e. n (sym e)))

same_cell : (x y : Bool) (l : Limit) (k : R.Limit) → x ≡ y → (T y → l ≡ shown_limit k) → cond x l no_limit ≡ shown_limit (cond y k R.no_limit)
same_cell true true l k e h = h tt
same_cell false false l k e h = refl
same_cell true false l k e h = absurd (subst T e tt)
same_cell false true l k e h = absurd (subst T (sym e) tt)

module _ (v : Subscription) (b : DecidedBySlot) (chart : BySlot)
    (ends : EndsAreSlots chart.option_count chart.ordering_count chart.firsts chart.seconds) (shows : Shows v chart.option_count chart.ordering_count chart.firsts chart.seconds chart.rows) (weighs : Weighs v chart.option_count chart.ordering_count chart.weights chart.ordering_weights) where
  abbrev n : ℕ
  n = chart.option_count

  abbrev m : ℕ
  m = chart.ordering_count

  abbrev firsts : List ℕ
  firsts = chart.firsts

  abbrev seconds : List ℕ
  seconds = chart.seconds

  abbrev ws : List ℕ
  ws = chart.weights

  abbrev bs : List ℕ
  bs = chart.ordering_weights

  abbrev s : Subscription
  s = counted n m v

  module _ (f : Forced) (h : Half) (forces : ForcedAs s b f) (half : HalfDecidedAs chart f h) where
    option_open_is : (i : ℕ) → i < n → has h.open_options i ≡ option_open s b i
    option_open_is = H.option_open_is v b chart weighs f h forces half

    ordering_open_is : (u : ℕ) → u < m → has h.open_orderings u ≡ ordering_open s b u
    ordering_open_is = H.ordering_open_is v b chart weighs f h forces half

    weight_is : (i : ℕ) → i < n → weight_in ws i ≡ v.weight i
    weight_is = H.weight_is v b chart weighs

    ordering_weight_is : (u : ℕ) → u < m → weight_in bs u ≡ v.ordering_weight u
    ordering_weight_is = H.ordering_weight_is v b chart weighs

    K_is : h.lower ≡ K s b
    K_is = H.K_is v b chart weighs f h forces half

    M_less_D_is : h.upper ≡ M s b - D s b
    M_less_D_is = H.M_less_D_is v b chart weighs f h forces half

    clash_is : (i j : ℕ) → i < n → j < n → clashes_in h.known i j ≡ clash s b i j
    unfolding clashes_in clash
    clash_is i j li lj = rw (half.knows, forces.known.at i j li lj, forces.known.at j i lj li) refl

    charge_is : (p : ℕ → Bool) → weight_with_orderings_in chart h p ≡ weight_with_orderings s b p
    unfolding weight_with_orderings_in
    charge_is p = rw (
      over_same n (weight_in ws) v.weight (open_option_in chart h p) (λ j. option_open s b j && p j) weight_is (λ j l. rw (option_open_is j l) refl),
      over_same m (weight_in bs) v.ordering_weight (open_ordering_in chart h p)
          (λ u. ordering_open s b u && ((option_open s b (v.first u) && p (v.first u)) || (option_open s b (v.second u) && p (v.second u)))) ordering_weight_is
          (λ u l. rw (ordering_open_is u l, option_open_is (get_or firsts u 0) (ends.first u l), option_open_is (get_or seconds u 0) (ends.second u l), shows.first u l, shows.second u l) refl),
    ) refl

    A_is : (i : ℕ) → i < n → weight_with_orderings_in chart h (clashes_in h.known i) ≡ A s b i
    unfolding A
    A_is i l = same_weight_with_orderings chart h ends (clashes_in h.known i) (clash s b i) (λ j k. clash_is i j l k) ∙ charge_is (clash s b i)

    E_is : (u : ℕ) → u < m → weight_with_orderings_in chart h (λ j. clashes_in h.known (get_or firsts u 0) j || clashes_in h.known (get_or seconds u 0) j) ≡ E s b u
    unfolding E
    E_is u l = same_weight_with_orderings chart h ends _ (λ j. clash s b (v.first u) j || clash s b (v.second u) j)
        (λ j k. rw (clash_is (get_or firsts u 0) j (ends.first u l) k, clash_is (get_or seconds u 0) j (ends.second u l) k, shows.first u l, shows.second u l) refl)
        ∙ charge_is (λ j. clash s b (v.first u) j || clash s b (v.second u) j)

    -- The open options among {i} are i itself.
    B_is : (i : ℕ) → T (option_open s b i) → weight_with_orderings_in chart h (eqb i) ≡ B s b i
    unfolding B
    B_is i t = charge_is (eqb i) ∙ rw (
      over_same_tests n v.weight (λ j. option_open s b j && eqb i j) (eqb i) (λ j l. own j),
      over_same_tests m v.ordering_weight (λ u. ordering_open s b u && ((option_open s b (v.first u) && eqb i (v.first u)) || (option_open s b (v.second u) && eqb i (v.second u)))) (λ u. ordering_open s b u && touches s u i)
          (λ u l. rw (own (v.first u), own (v.second u), eqb_turn i (v.first u), eqb_turn i (v.second u)) refl),
    ) refl
      where
        yes_and : (x y : Bool) → T x → (x && y) ≡ y
        yes_and true y t = refl
        yes_and false y t = absurd t

        no_and : (x y : Bool) → y ≡ false → (x && y) ≡ y
        no_and true y e = refl
        no_and false y e = sym e

        own : (j : ℕ) → (option_open s b j && eqb i j) ≡ eqb i j
        own j = go (ℕ_discrete i j)
          where
            go : Dec (i ≡ j) → (option_open s b j && eqb i j) ≡ eqb i j
            go (yes e) = yes_and (option_open s b j) (eqb i j) (subst (λ z. T (option_open s b z)) e t)
            go (no k) = no_and (option_open s b j) (eqb i j) (ne_eqb i j k)

    pub option_limit_is : (i : ℕ) → i < n → option_limit_in chart h i ≡ shown_limit (option_limit s b i)
    unfolding option_limit_in option_limit option_kept_lower option_kept_upper option_dropped_lower option_dropped_upper
    option_limit_is i l = same_cell (has h.open_options i) (option_open s b i) _ _ (option_open_is i l) (λ t. rw (A_is i l, B_is i t, K_is, M_less_D_is, weight_is i l) refl)

    pub ordering_limit_is : (u : ℕ) → u < m → ordering_limit_in chart h u ≡ shown_limit (ordering_limit s b u)
    unfolding ordering_limit_in ordering_limit ordering_kept_lower ordering_kept_upper ordering_dropped_lower ordering_dropped_upper
    ordering_limit_is u l = same_cell (has h.open_orderings u) (ordering_open s b u) _ _ (ordering_open_is u l) (λ t. rw (
      E_is u l,
      over_same n (weight_in ws) v.weight (λ j. has h.open_options j && (eqb (get_or firsts u 0) j || eqb (get_or seconds u 0) j)) (λ j. option_open s b j && touches s u j) weight_is
          (λ j k. rw (option_open_is j k, shows.first u l, shows.second u l) refl),
      K_is,
      M_less_D_is,
      ordering_weight_is u l,
    ) refl)
