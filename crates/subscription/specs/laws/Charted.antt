-- The arrays worked out for a record that obeys the rule show its subscription.
use Rattle.std.specs.Prelude.{◌≡◌, List, ℕ, ◌<◌, get_or}
use Rattle.std.proofs.Common.{sym, subst, ◌∙◌, arith, eq-eqb, eqb-true}
use Rattle.rules.specs.Subscription.{Subscription, subscription}
use Rattle.rows.specs.Sets.{cell}
use Rattle.graph.specs.Graph.{EndsAreSlots}
use Rattle.graph.specs.Shown.{counted}
use Rattle.chart.specs.Arrays.{HasWeights, ShowLines}
use Rattle.slots.specs.Slots.{NumbersDiffer, SlotOf, SlotsOf}
use Rattle.catalogue.specs.Catalogue.{SaysCatalogue}
use Rattle.sheet.specs.Lines.{lines_of}
use Rattle.sheet.specs.Recorded.{Recorded}
use Rattle.sheet.proofs.LinesLaws.{option_lines, ordering_lines, slot_number, slot_first, slot_second, slot_weight, slot_ordering_weight, recorded_proper}
use Rattle.sheet.specs.declared.sheet.Sheet.{Sheet}

pub counted_is : (s : Sheet) → counted s.option_count s.ordering_count (subscription (lines_of s)) ≡ subscription (lines_of s)
unfolding subscription
counted_is s i = record {
  option_count = sym (option_lines s) i;
  ordering_count = sym (ordering_lines s) i;
  number = (subscription (lines_of s)).number;
  weight = (subscription (lines_of s)).weight;
  first = (subscription (lines_of s)).first;
  second = (subscription (lines_of s)).second;
  ordering_weight = (subscription (lines_of s)).ordering_weight;
  before = (subscription (lines_of s)).before;
}

-- The slot of a number that stands at slot i is i.
found_there : {n : ℕ} {numbers : List ℕ} {x r : ℕ} → SlotOf n numbers x r → (i : ℕ) → i < n → get_or numbers i 0 ≡ x → i ≡ r
found_there {n} {numbers} {x} {r} f i l e = sym (eqb-true r i (sym (f.at i l) ∙ eq-eqb x (get_or numbers i 0) (sym e)))

module _ (s : Sheet) (R : Recorded s) where
  abbrev n : ℕ
  n = s.option_count

  abbrev m : ℕ
  m = s.ordering_count

  abbrev v : Subscription
  v = subscription (lines_of s)

  pub numbers_differing : NumbersDiffer n s.numbers
  numbers_differing = record { size = let z = R.few_options in let k = R.lengths.numbers in omega arith; distinct = R.distinct }

  module _ (rows firsts seconds : List ℕ)
      (says : SaysCatalogue n s.numbers s.letters s.befores s.afters s.catalogue_lines rows)
      (is_firsts : SlotsOf n m s.numbers s.firsts firsts) (is_seconds : SlotsOf n m s.numbers s.seconds seconds) where
    first_at : (u : ℕ) → u < m → (v.first u ≡ get_or firsts u 0) × (get_or firsts u 0 < n)
    first_at u l =
        let (i, (h, e)) = (R.subscribed u l).0 in
        let q = found_there (is_firsts.at u l) i h e in (slot_first s R u i l h e ∙ q, subst (λ z. z < n) q h)

    second_at : (u : ℕ) → u < m → (v.second u ≡ get_or seconds u 0) × (get_or seconds u 0 < n)
    second_at u l =
        let (i, (h, e)) = (R.subscribed u l).1 in
        let q = found_there (is_seconds.at u l) i h e in (slot_second s R u i l h e ∙ q, subst (λ z. z < n) q h)

    before_at : (i j : ℕ) → i < n → j < n → v.before i j ≡ cell rows i j
    unfolding subscription lines_of
    before_at i j li lj = rw (slot_number s i li, slot_number s j lj) (sym (says.at i j li lj))

    pub ends : EndsAreSlots n m firsts seconds
    ends = record {
      few_options = R.few_options;
      few_orderings = R.few_orderings;
      first_size = let a = is_firsts.size in let b = R.few_orderings in omega arith;
      second_size = let a = is_seconds.size in let b = R.few_orderings in omega arith;
      first = λ u l. (first_at u l).1;
      second = λ u l. (second_at u l).1;
    }

    pub has_weights : HasWeights n m s.weights s.ordering_weights
    has_weights = record {
      few_options = R.few_options;
      few_orderings = R.few_orderings;
      weight_size = (let z = R.few_options in let k = R.lengths.weights in omega arith);
      ordering_weight_size = (let z = R.few_orderings in let k = R.lengths.ordering_weights in omega arith);
    }

    pub show_lines : ShowLines (lines_of s) n m firsts seconds rows s.weights s.ordering_weights
    show_lines = record {
      options = option_lines s;
      orderings = ordering_lines s;
      proper = recorded_proper s R;
      shows = record { first = λ u l. (first_at u l).0; second = λ u l. (second_at u l).0; before = before_at };
      weighs = record { weight = slot_weight s; ordering_weight = slot_ordering_weight s };
    }
