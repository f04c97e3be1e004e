-- One slot more that is not in the set; the first open item of two sets; no open item stands before it in the list of decisions.
use Rattle.std.specs.Prelude.{◌≡◌, true, false, ◌⊎◌, ℕ, suc, ◌+◌, ◌-◌, ◌≤◌, ◌<◌, get_or, T, Some, None}
use Rattle.chart.specs.Chart.{BySlot}
use Rattle.std.proofs.Common.{sym, subst, ◌∙◌, inl, inr, eq-or-lt_of_le, le_of_suc-le-suc, arith}
use Rattle.rules.specs.Decisions.{Open, is_open}
use Rattle.rows.specs.Bits.{has}
use Rattle.rows.specs.laws.Sets.{holds_at}
use Rattle.given.specs.declared.sets.Given.{Given}
use Rattle.keeping.specs.Sets.{decisions_of, place}
use Rattle.settle.specs.Settled.{LeftOf}
use Rattle.keeping.specs.laws.Shown.{none_before_item}
use Rattle.settle.specs.laws.Items.{open_item}
use Rattle.settle.specs.declared.settling.Settled.{Settled}
use Rattle.branch.specs.First.{FirstOf, FirstItem}

pub one_more : (set i : ℕ) → ((j : ℕ) → j < i → has set j ≡ false) → has set i ≡ false → (j : ℕ) → j < i + 1 → has set j ≡ false
one_more set i before here j l = go (eq-or-lt_of_le (let k : j < suc i = omega arith in le_of_suc-le-suc k))
  where
    go : (j ≡ i) ⊎ (j < i) → has set j ≡ false
    go (inl e) = subst (λ z. has set z ≡ false) (sym e) here
    go (inr k) = before j k

-- ---- options come first
module _ {options orderings n m : ℕ} where
  pub first_is_option : {i : ℕ} → n ≤ 32 → FirstOf options n (Some i) → FirstItem options orderings n m (Some i)
  first_is_option few f = let l = f.here.0 in record {
    picked = record { below = omega arith; option = λ _. f.here; ordering = λ u e. absurd (omega arith); no_option = tt; no_ordering = tt };
    none_before = λ _ j k. f.none_before j k;
    no_option = λ k. absurd (omega arith);
    no_ordering_before = λ u e. absurd (omega arith);
  }

  pub first_is_ordering : {u : ℕ} → m ≤ 64 → FirstOf options n None → FirstOf orderings m (Some u) → FirstItem options orderings n m (Some (32 + u))
  first_is_ordering {u} few f g = let l = g.here.0 in record {
    picked = record {
      below = omega arith;
      option = λ k. absurd (omega arith);
      ordering = λ w e. subst (λ z. (z < m) × (has orderings z ≡ true)) (let q : u ≡ w = omega arith in q) g.here;
      no_option = tt;
      no_ordering = tt;
    };
    none_before = λ k. absurd (omega arith);
    no_option = λ _ j k. f.none j k;
    no_ordering_before = λ w e j k. g.none_before j (omega arith);
  }

  pub nothing_is_open : FirstOf options n None → FirstOf orderings m None → FirstItem options orderings n m None
  nothing_is_open f g = record { picked = record { below = tt; option = tt; ordering = tt; no_option = f.none; no_ordering = g.none }; none_before = tt; no_option = tt; no_ordering_before = tt }

-- ---- the first item in slot order
module _ {chart : BySlot} {want : ℕ} {g : Given} (x : Settled) (left : LeftOf chart want g x)
    (i : ℕ) (first : FirstItem x.open_options x.open_orderings chart.option_count chart.ordering_count (Some i)) where
  abbrev n : ℕ
  n = chart.option_count

  -- every open item stands at its place or after it
  pub first_in_the_list : (k : ℕ) → k < place n i → T (is_open (get_or (decisions_of chart x.given) k Open)) → ⊥
  first_in_the_list = let o = open_item x left i first.picked in none_before_item chart x.given i o
      (λ h j k. let b = (o.option h).0 in sym (holds_at left.options j (omega arith)) ∙ first.none_before h j k)
      (λ h j k. sym (holds_at left.options j k) ∙ first.no_option h j k)
      (λ h j k. let b = (o.ordering h).0 in sym (holds_at left.orderings j (omega arith)) ∙ first.no_ordering_before (i - 32) (omega arith) j k)
