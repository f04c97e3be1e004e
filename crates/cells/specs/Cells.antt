-- The limits of one item, worked out from rows of bits.
use Rattle.std.specs.Prelude.{Bool, ◌&&◌, ◌||◌, cond, List, ℕ, ◌+◌, ◌-◌, get_or, eqb}
use Rattle.rules.specs.Slots.{over}
use Rattle.rules.specs.Results as R
use Rattle.rows.specs.Bits.{has}
use Rattle.chart.specs.Arrays.{weight_in}
use Rattle.half.specs.Half.{clashes_in, weight_of_sets}
use Rattle.cells.specs.declared.cells.Limit.{Limit}
use Rattle.chart.specs.Chart.{BySlot}
use Rattle.half.specs.declared.opened.Half.{Half}

-- The limits of the rules, in the code's own words.
abbrev pub shown_limit : R.Limit → Limit
shown_limit l = record { kept_lower = l.kept_lower; kept_upper = l.kept_upper; dropped_lower = l.dropped_lower; dropped_upper = l.dropped_upper }

abbrev pub no_limit : Limit
no_limit = record { kept_lower = 0; kept_upper = 0; dropped_lower = 0; dropped_upper = 0 }

-- Ordering u is of a set, and touches an option of a set.
abbrev pub touches_in : BySlot → ℕ → ℕ → ℕ → Bool
touches_in chart orderings options u = has orderings u && (has options (get_or chart.firsts u 0) || has options (get_or chart.seconds u 0))

module _ (chart : BySlot) (h : Half) where
  abbrev firsts : List ℕ
  firsts = chart.firsts

  abbrev seconds : List ℕ
  seconds = chart.seconds

  abbrev ws : List ℕ
  ws = chart.weights

  abbrev bs : List ℕ
  bs = chart.ordering_weights

  -- The open options that pass a test, and the open orderings touching one of these.
  abbrev pub open_option_in : (ℕ → Bool) → ℕ → Bool
  open_option_in p j = has h.open_options j && p j

  abbrev pub open_ordering_in : (ℕ → Bool) → ℕ → Bool
  open_ordering_in p u = has h.open_orderings u && (open_option_in p (get_or firsts u 0) || open_option_in p (get_or seconds u 0))

  unfoldable pub weight_with_orderings_in : (ℕ → Bool) → ℕ
  weight_with_orderings_in p = weight_of_sets chart (open_option_in p) (open_ordering_in p)

  unfoldable pub option_limit_in : ℕ → Limit
  option_limit_in i = cond (has h.open_options i)
      (record { kept_lower = h.lower + weight_in ws i; kept_upper = h.upper - weight_with_orderings_in (clashes_in h.known i); dropped_lower = h.lower; dropped_upper = h.upper - weight_with_orderings_in (eqb i) })
      no_limit

  unfoldable pub ordering_limit_in : ℕ → Limit
  ordering_limit_in u = cond (has h.open_orderings u)
      (record {
        kept_lower = h.lower + weight_in bs u + over chart.option_count (weight_in ws) (λ j. has h.open_options j && (eqb (get_or firsts u 0) j || eqb (get_or seconds u 0) j));
        kept_upper = h.upper - weight_with_orderings_in (λ j. clashes_in h.known (get_or firsts u 0) j || clashes_in h.known (get_or seconds u 0) j);
        dropped_lower = h.lower;
        dropped_upper = h.upper - weight_in bs u;
      })
      no_limit
